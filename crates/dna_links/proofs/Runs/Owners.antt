-- The links of a side with the places of the events that gave them their addresses: at most one link has an address, and what is sent and
-- what comes changes nothing of it.
use Rattle.std.proofs.Common.{◌≡◌, ℕ, zero, suc, ◌<◌, ◌≤◌, Bool, true, false, cond, ◌⊎◌, inl, inr, Option, Some, None, List, [], ◌∷◌, ◌++◌, length}
use Rattle.std.proofs.Common.{refl, sym, ap, ◌∙◌, subst, arith, fold, length-append, length-set}
use Rattle.std.specs.Prelude.{slice_get, slice_set}
use Rattle.std.proofs.lemmas.Bool.{and_parts, cases_order}
use Rattle.std.proofs.lemmas.Option.{same_Some, slice_get_within}
use Rattle.dna_packet.specs.Nsp.{NspValue}
use Rattle.dna_links.specs.Queues.{ended}
use Rattle.dna_links.specs.declared.port.Phase.{Phase}
use Rattle.dna_links.specs.declared.port.Phase.TheVariants.{Calling, Running}
use Rattle.dna_links.specs.LookUps.{is_at, is_live, is_called, is_calling, is_connected, has_both}
use Rattle.dna_links.specs.Links.{LinkOf, LinkTruth, changed, in_phase, with_segments}
use Rattle.dna_links.specs.User.{LinkEventValue}
use Rattle.dna_links.specs.Sending.{Sent}
use Rattle.dna_links.specs.Arriving.{of_partner}
use Rattle.dna_links.specs.inner.Forms.{called, confirmed}
use Rattle.dna_links.specs.TrueSegments.{TrueSegments, Numbers, true_segments}
use Rattle.dna_links.specs.TrueSegments as segments
use Rattle.dna_links.specs.TrueLinks.{Links}
use Rattle.dna_links.specs.Captures.{given_address, gives_address, behind, AreRead}
use Rattle.dna_links.proofs.Runs.Loose.{SentDid, OfNone, Stays, EndsCalled, Segment, Acks}
use Rattle.dna_links.proofs.Tables.MessageOutcomes.{ArrivedDid, Ignores, Begins, Confirms, Ends}
use Rattle.dna_links.proofs.Tables.MessageOutcomes.{TakesSegment, TakesAcks, TakesOther}
use Rattle.dna_links.proofs.Runs.Sends.{AreSoundSegments}
use Rattle.dna_links.proofs.Runs.Sides.{all_set, all_pushed}
use Rattle.dna_links.proofs.Runs.Reads.{given_again, later_gives, HoldsFrom, HoldsAt, IsOwned, owned_same, gives_is}

pub record AreOwned (events : List LinkEventValue) (links : List (LinkOf TrueSegments)) : Type 0 where
  pub place_of : ℕ → Option ℕ
  pub owned : (i : ℕ) (link : LinkOf TrueSegments) → slice_get links i ≡ Some link → IsOwned events (place_of i) link
  pub within : (i place : ℕ) → place_of i ≡ Some place → i < length links
  pub once : (i j place : ℕ) → place_of i ≡ Some place → place_of j ≡ Some place → i ≡ j
  pub all : (place own : ℕ) (event : LinkEventValue) → slice_get events place ≡ Some event → given_address event ≡ Some own →
      (i : ℕ) × (place_of i ≡ Some place)

pub owned_read : (events : List LinkEventValue) (links : List (LinkOf TrueSegments)) → AreOwned events links → AreRead events links
owned_read events links o =
    record { place_of = o.place_of; read = λ i link at. (o.owned i link at).read; within = o.within; once = o.once; all = o.all }

-- before any record
pub none_owned : AreOwned [] []
none_owned = record {
  place_of = λ i. None;
  owned = λ i link at. absurd cc;
  within = λ i place at. absurd cc;
  once = λ i j place at_i at_j. absurd cc;
  all = λ place own event at gives. absurd cc;
}

calling_live : (phase : Phase) → is_calling phase ≡ true → is_live phase ≡ true
calling_live Calling e = refl
calling_live phase e = absurd cc

none_at : (o : Option ℕ) (own : ℕ) → is_at o own ≡ true → o ≡ None → ⊥
none_at None own e n = absurd cc
none_at (Some k) own e n = absurd cc

pub there_is : {X : Type 0} (xs : List X) (i : ℕ) → i < length xs → (x : X) × (slice_get xs i ≡ Some x)
there_is [] i less = absurd (omega arith)
there_is (x ∷ xs) zero less = (x, refl)
there_is (x ∷ xs) (suc i) less = there_is xs i (omega arith)

-- what comes keeps what was handed in and delivered
pub fold_same : (acks : List ℕ) (f : TrueSegments) → ((fold segments.acknowledged_through f acks).handed ≡ f.handed) ×
    ((fold segments.acknowledged_through f acks).delivered ≡ f.delivered)
fold_same [] f = (refl, refl)
fold_same (ack ∷ acks) f = let r = fold_same acks (segments.acknowledged_through f ack) in let t = one _ in (r.0 ∙ t.0, r.1 ∙ t.1)
  where
    one : (b : Bool) → ((cond b (record f { acknowledged = ack }) f).handed ≡ f.handed) ×
        ((cond b (record f { acknowledged = ack }) f).delivered ≡ f.delivered)
    one true = (refl, refl)
    one false = (refl, refl)

module _ (events : List LinkEventValue) (s : Links) (o : AreOwned events s.links) where
  -- a link that begins now has no place
  pub place_beyond : o.place_of (length s.links) ≡ None
  place_beyond = go (o.place_of (length s.links)) refl
    where
      go : (p : Option ℕ) → o.place_of (length s.links) ≡ p → o.place_of (length s.links) ≡ None
      go None e = e
      go (Some k) e = let w = o.within (length s.links) k e in absurd (omega arith)

  pub place_below : (i k : ℕ) → o.place_of i ≡ Some k → k < length events
  place_below i k e =
      let t = there_is s.links i (o.within i k e) in
      let h : HoldsAt events t.0.port.own (Some k) = subst (HoldsAt events t.0.port.own) e (o.owned i t.0 t.1).holds in
      slice_get_within events k h.event h.there

  -- at most one link has an address
  pub unique : (i j own : ℕ) (l m : LinkOf TrueSegments) → slice_get s.links i ≡ Some l → slice_get s.links j ≡ Some m → l.port.own ≡ Some own →
      m.port.own ≡ Some own → i ≡ j
  unique i j own l m at_i at_j own_l own_m = go (o.place_of i) (o.place_of j) refl refl (o.owned i l at_i).holds (o.owned j m at_j).holds
    where
      -- which of two places comes first
      before : (p q : ℕ) (x : Option ℕ) (h : HoldsFrom events x p) (y : Option ℕ) (g : HoldsFrom events y q) → x ≡ Some own → y ≡ Some own → p < q → ⊥
      before p q x h y g own_x own_y less = at h.holds g.holds
        where
          at : ((x ≡ Some h.address) × (given_again h.address (behind p events) ≡ false)) ⊎ (x ≡ None) →
              ((y ≡ Some g.address) × (given_again g.address (behind q events) ≡ false)) ⊎ (y ≡ None) → ⊥
          at (inr a) b = let e = sym own_x ∙ a in absurd cc
          at (inl a) (inr b) = let e = sym own_y ∙ b in absurd cc
          at (inl a) (inl b) =
              let same : g.address ≡ h.address = same_Some g.address h.address (sym b.0 ∙ own_y ∙ sym own_x ∙ a.0) in
              let again = later_gives h.address events p q g.event less g.there (gives_is h.address g.event (g.gives ∙ ap Some same)) in
              let never = a.1 in absurd cc

      go : (p q : Option ℕ) → o.place_of i ≡ p → o.place_of j ≡ q → HoldsAt events l.port.own (o.place_of i) →
          HoldsAt events m.port.own (o.place_of j) → i ≡ j
      go None q at_p at_q h g = let none = subst (HoldsAt events l.port.own) at_p h in let e = sym own_l ∙ none in absurd cc
      go (Some p) None at_p at_q h g = let none = subst (HoldsAt events m.port.own) at_q g in let e = sym own_m ∙ none in absurd cc
      go (Some p) (Some q) at_p at_q h g = at (cases_order p q)
        where
          x : HoldsFrom events l.port.own p
          x = subst (HoldsAt events l.port.own) at_p h

          y : HoldsFrom events m.port.own q
          y = subst (HoldsAt events m.port.own) at_q g

          at : (p ≡ q) ⊎ ((p < q) ⊎ (q < p)) → i ≡ j
          at (inl e) = o.once i j p at_p (at_q ∙ ap Some (sym e))
          at (inr (inl less)) = absurd (before p q l.port.own x m.port.own y own_l own_m less)
          at (inr (inr less)) = absurd (before q p m.port.own y l.port.own x own_m own_l less)

  -- an address that a link lost, and that was not given again, is no link's
  pub lost_by : (i j p own : ℕ) (l m : LinkOf TrueSegments) (h : HoldsFrom events l.port.own p) → slice_get s.links i ≡ Some l →
      slice_get s.links j ≡ Some m → o.place_of i ≡ Some p → l.port.own ≡ None → given_again h.address (behind p events) ≡ false → h.address ≡ own →
      m.port.own ≡ Some own → ⊥
  lost_by i j p own l m h at_i at_j at_p lost never same own_m = go (o.place_of j) refl (o.owned j m at_j).holds
    where
      gives : (e : LinkEventValue) (n : ℕ) → given_address e ≡ Some n → n ≡ own → (a : ℕ) → a ≡ own → gives_address a e ≡ true
      gives e n g same_n a same_a = gives_is a e (g ∙ ap Some (same_n ∙ sym same_a))

      at : (q : ℕ) (g : HoldsFrom events m.port.own q) → o.place_of j ≡ Some q → g.address ≡ own → given_again g.address (behind q events) ≡ false →
          (p ≡ q) ⊎ ((p < q) ⊎ (q < p)) → ⊥
      at q g at_q is once_given (inl e) =
          let same_link : l ≡ m = same_Some l m (sym at_i ∙ ap (slice_get s.links) (o.once i j p at_p (at_q ∙ ap Some (sym e))) ∙ at_j) in
          let none : m.port.own ≡ None = subst (λ (x : LinkOf TrueSegments). x.port.own ≡ None) same_link lost in
          let e = sym own_m ∙ none in absurd cc
      at q g at_q is once_given (inr (inl less)) =
          let again = later_gives h.address events p q g.event less g.there (gives g.event g.address g.gives is h.address same) in
          let n = never in absurd cc
      at q g at_q is once_given (inr (inr less)) =
          let again = later_gives g.address events q p h.event less h.there (gives h.event h.address h.gives same g.address is) in
          let n = once_given in absurd cc

      go : (q : Option ℕ) → o.place_of j ≡ q → HoldsAt events m.port.own (o.place_of j) → ⊥
      go None at_q g = let none = subst (HoldsAt events m.port.own) at_q g in let e = sym own_m ∙ none in absurd cc
      go (Some q) at_q g = by (subst (HoldsAt events m.port.own) at_q g)
        where
          by : HoldsFrom events m.port.own q → ⊥
          by x = holding x.holds
            where
              holding : ((m.port.own ≡ Some x.address) × (given_again x.address (behind q events) ≡ false)) ⊎ (m.port.own ≡ None) → ⊥
              holding (inl a) = at q x at_q (same_Some x.address own (sym a.0 ∙ own_m)) a.1 (cases_order p q)
              holding (inr none) = let e = sym own_m ∙ none in absurd cc

  -- ---- no event

  owned_links : (links : List (LinkOf TrueSegments)) → length s.links ≤ length links →
      ((i : ℕ) (link : LinkOf TrueSegments) → slice_get links i ≡ Some link → IsOwned events (o.place_of i) link) → AreOwned events links
  owned_links links longer owned =
      record { place_of = o.place_of; owned = owned; within = λ i place at. let w = o.within i place at in omega arith; once = o.once; all = o.all }

  -- a link changes, and keeps its address and messages
  one_owned : (number : ℕ) (link left : LinkOf TrueSegments) → slice_get s.links number ≡ Some link → left.port.own ≡ link.port.own →
      left.segments.handed ≡ link.segments.handed → left.segments.delivered ≡ link.segments.delivered →
      (is_called left.port.phase ≡ true → is_called link.port.phase ≡ true) →
      (is_live left.port.phase ≡ true → left.port.own ≡ None → left.segments.received ≡ []) → AreOwned events (changed number left s).links
  one_owned number link left there own handed up called fresh =
      owned_links (slice_set s.links number left) (let l = length-set s.links number left in omega arith)
      (all_set (λ (i : ℕ) (l : LinkOf TrueSegments). IsOwned events (o.place_of i) l) s.links number left
      (owned_same events (o.place_of number) link left own handed up called fresh (o.owned number link there)) o.owned)

  pub sent_owned : (m : NspValue) (made : Sent TrueSegments Numbers) →
      ((number : ℕ) (link : LinkOf TrueSegments) → slice_get s.links number ≡ Some link → AreSoundSegments link.segments) →
      SentDid s m made →
      AreOwned events made.links.links
  sent_owned m made sound (OfNone none) = o
  sent_owned m made sound (Stays number link none there) = o
  sent_owned m made sound (EndsCalled far reason number link none is found) =
      one_owned number link (ended true_segments link) found.there refl refl refl (λ c. absurd cc) (λ live. absurd cc)
  sent_owned m made sound (Segment segment number link sent is there goes) =
      let t = (goes (sound number link there)).sends in
      one_owned number link (with_segments sent.segments link) there refl t.handed t.delivered (λ c. c)
      (λ live none. t.received ∙ (o.owned number link there).fresh live none)
  sent_owned m made sound (Acks dst src acks number link sent is there goes) =
      let t = (goes (sound number link there)).sends in
      one_owned number link (with_segments sent.segments link) there refl t.handed t.delivered (λ c. c)
      (λ live none. t.received ∙ (o.owned number link there).fresh live none)

  pub arrived_owned : (m : NspValue) (truth : LinkTruth Numbers) (left : Links) → ArrivedDid true_segments of_partner s m truth left →
      AreOwned events left.links
  arrived_owned m truth left Ignores = o
  arrived_owned m truth left (Begins far segsize is none) =
      let l = called true_segments of_partner far segsize truth.tag in
      owned_links (s.links ++ l ∷ []) (let e = length-append s.links (l ∷ []) in omega arith)
      (all_pushed (λ (i : ℕ) (l : LinkOf TrueSegments). IsOwned events (o.place_of i) l) s.links l
      (subst (λ (p : Option ℕ). IsOwned events p l) (sym place_beyond)
      (record { read = record { handed = refl; up = refl }; holds = refl; called = λ c. refl; fresh = λ live none. refl })) o.owned)
  arrived_owned m truth left (Confirms own far segsize number link is found for) =
      let calling = (and_parts (is_calling link.port.phase) (is_at link.port.own own) found.passed).0 in
      one_owned number link (confirmed true_segments of_partner far segsize truth.tag link) found.there refl refl refl (λ c. absurd cc)
      (λ live none. (o.owned number link found.there).fresh (calling_live link.port.phase calling) none)
  arrived_owned m truth left (Ends test number link found) =
      one_owned number link (ended true_segments link) found.there refl refl refl (λ c. absurd cc) (λ live. absurd cc)
  arrived_owned m truth left (TakesSegment own far segment number link is found pair) =
      let both = and_parts (is_at link.port.own own) (is_at link.port.far far)
      (and_parts (is_connected link.port.phase) (has_both link.port own far) found.passed).1 in
      let f = fold_same truth.known.acknowledgements link.segments in
      one_owned number link
      (with_segments (segments.takes_segment segment truth.known link.segments) (in_phase Running link)) found.there refl f.0 f.1
      (λ c. absurd cc) (λ live none. absurd (none_at link.port.own own both.0 none))
  arrived_owned m truth left (TakesAcks own far dst src acks number link is found pair) =
      let both = and_parts (is_at link.port.own own) (is_at link.port.far far)
      (and_parts (is_connected link.port.phase) (has_both link.port own far) found.passed).1 in
      let f = fold_same truth.known.acknowledgements link.segments in
      one_owned number link (with_segments (segments.takes_acks acks truth.known link.segments) (in_phase Running link)) found.there refl f.0 f.1
      (λ c. absurd cc)
      (λ live none. absurd (none_at link.port.own own both.0 none))
  arrived_owned m truth left (TakesOther own far number link found pair) =
      let both = and_parts (is_at link.port.own own) (is_at link.port.far far)
      (and_parts (is_connected link.port.phase) (has_both link.port own far) found.passed).1 in
      one_owned number link (in_phase Running link) found.there refl refl refl (λ c. absurd cc)
      (λ live none. absurd (none_at link.port.own own both.0 none))
