-- Links of the machine that are the same except for those that are over and have no address: nothing finds those any more, so all goes on alike.
use Rattle.dna_queues.proofs.Prelude.{◌≡◌, ℕ, Bool, true, false, not, ◌&&◌, ◌==◌, ◌⊎◌, inl, inr, Option, Some, None, List, [], ◌∷◌, length}
use Rattle.dna_queues.proofs.Prelude.{option_map, Result, Ok, Err, refl, sym, ap, ◌∙◌, subst, arith, position, length-append, length-set, slice_get}
use Rattle.dna_queues.proofs.Prelude.{length-map, slice_get-map, slice_get_within, same_Some, at_pushed, LinkRefusal, WrongNode, Phase, Calling}
use Rattle.dna_queues.proofs.Prelude.{Called, Ended, Port, LinkTest, HasAddress, LiveAt, TheLink, LiveTo, OpenedAt, CallingAt, CalledBy, BegunBy}
use Rattle.dna_queues.proofs.Prelude.{ActedOn, With, passes, is_in, is_live, is_at, is_connected, has_both, Carried, LinkTruth, check, on_link}
use Rattle.dna_queues.proofs.Prelude.{at_number, with_link, with_seen, begun, changed, in_use, may_send, port_of_waiting, freed, forgotten}
use Rattle.dna_queues.proofs.Prelude.{booted_link, booted, settled, Ask, Finds, FindsEither, FindsNone, FindsInUse, KnowsInUse, InPhase, InTurn}
use Rattle.dna_queues.proofs.Prelude.{OrElse, ForThisLink, OfThisPair, Delivers, SendsSegment, SendsAcks, Effect, GiveAddress, EndAll, Settle, Row}
use Rattle.dna_queues.proofs.Prelude.{Asks, on_ok, otherwise, asked, by_row, after, goes, Numbers, true_segments, IsAnswered, position_passes}
use Rattle.dna_queues.proofs.Prelude.{at_set}
use Rattle.dna_links.specs.TrueLinks as machine
use Rattle.dna_queues.proofs.{Facts.not_both, Facts.drops_still, Goes.Link, LinkLists.position_same, LinkLists.there_too}

pub record IsGone (l : Link) : Type 0 where
  pub phase : l.port.phase ≡ Ended
  pub own : l.port.own ≡ None
  pub waits : l.queue.waits ≡ None
  pub answered : IsAnswered l.segments

abbrev pub AreSameOrGone : Link → Link → Type 0
AreSameOrGone x y = (x ≡ y) ⊎ (IsGone x × IsGone y)

pub record Alike (s t : machine.Links) : Type 0 where
  pub node : s.node ≡ t.node
  pub peer : s.peer ≡ t.peer
  pub size : length s.links ≡ length t.links
  pub all : (i : ℕ) (x y : Link) → slice_get s.links i ≡ Some x → slice_get t.links i ≡ Some y → AreSameOrGone x y

-- ---- look-ups

pub gone_fails : (test : LinkTest) (p : Port) → p.phase ≡ Ended → p.own ≡ None → passes test p ≡ false
gone_fails (HasAddress own) p ended none = ap (λ (o : Option ℕ). is_at o own) none
gone_fails (LiveAt own) p ended none = ap (λ (q : Phase). is_live q && is_at p.own own) ended
gone_fails (TheLink own far) p ended none = ap (λ (q : Phase). is_live q && has_both p own far) ended
gone_fails (LiveTo far) p ended none = ap (λ (q : Phase). is_live q && is_at p.far far) ended
gone_fails (OpenedAt own) p ended none = ap (λ (q : Phase). is_live q && (p.opened && is_at p.own own)) ended
gone_fails (CallingAt own) p ended none = ap (λ (q : Phase). is_in Calling q && is_at p.own own) ended
gone_fails (CalledBy far) p ended none = ap (λ (q : Phase). is_in Called q && is_at p.far far) ended
gone_fails (BegunBy far) p ended none = ap (λ (q : Phase). is_live q && (not p.opened && is_at p.far far)) ended
gone_fails (ActedOn own far) p ended none = ap (λ (q : Phase). is_connected q && has_both p own far) ended

use_gone : (l : Link) → IsGone l → in_use With l ≡ l.port
use_gone l g = ap (λ (waits : Option Phase). port_of_waiting waits l.port) g.waits

module _ (s t : machine.Links) (a : Alike s t) where
  module _ (port : Link → Port) (seen : (l : Link) → IsGone l → port l ≡ l.port) (test : LinkTest) where
    fails : (l : Link) → IsGone l → passes test (port l) ≡ false
    fails l g = ap (passes test) (seen l g) ∙ gone_fails test l.port g.phase g.own

    abbrev finds : Link → Bool
    finds l = passes test (port l)

    found_same : position finds s.links ≡ position finds t.links
    found_same = position_same finds finds s.links t.links a.size (λ i x y at_x at_y. go x y (a.all i x y at_x at_y))
      where
        go : (x y : Link) → AreSameOrGone x y → finds x ≡ finds y
        go x y (inl e) = ap finds e
        go x y (inr g) = fails x g.0 ∙ sym (fails y g.1)

    -- by the ports that these links have for this look-up
    seen_alike : {R : Type 0} (Rel : R → R → Type 0) (otherwise other : R) (next also : ℕ → Link → R) → Rel otherwise other →
        ((n : ℕ) (l : Link) → Rel (next n l) (also n l)) → Rel (with_seen port test s otherwise next) (with_seen port test t other also)
    seen_alike {R} Rel otherwise other next also none some =
        subst (λ (o : Option ℕ). Rel (with_seen port test s otherwise next) (at_number t.links o other also)) found_same
        (go (position finds s.links) refl)
      where
        at_link : (n : ℕ) → position finds s.links ≡ Some n → (p q : Option Link) → slice_get s.links n ≡ p → slice_get t.links n ≡ q →
            Rel (on_link n p otherwise next) (on_link n q other also)
        at_link n found None None at_x at_y = none
        at_link n found None (Some y) at_x at_y =
            let x = there_too s.links t.links n y a.size at_y in let e = sym x.1 ∙ at_x in absurd cc
        at_link n found (Some x) None at_x at_y =
            let y = there_too t.links s.links n x (sym a.size) at_x in let e = sym y.1 ∙ at_y in absurd cc
        at_link n found (Some x) (Some y) at_x at_y = same (a.all n x y at_x at_y)
          where
            same : AreSameOrGone x y → Rel (next n x) (also n y)
            same (inl e) = subst (λ (z : Link). Rel (next n x) (also n z)) e (some n x)
            same (inr g) = absurd (not_both _ (position_passes finds s.links n x found at_x) (fails x g.0))

        go : (o : Option ℕ) → position finds s.links ≡ o → Rel (at_number s.links o otherwise next) (at_number t.links o other also)
        go None found = none
        go (Some n) found = at_link n found (slice_get s.links n) (slice_get t.links n) refl refl

  abbrev own_port : Link → Port
  own_port l = l.port

  pub link_alike : (test : LinkTest) {R : Type 0} (Rel : R → R → Type 0) (otherwise other : R) (next also : ℕ → Link → R) → Rel otherwise other →
      ((n : ℕ) (l : Link) → Rel (next n l) (also n l)) → Rel (with_link test s otherwise next) (with_link test t other also)
  link_alike test Rel otherwise other next also none some = seen_alike own_port (λ l g. refl) test Rel otherwise other next also none some

  use_alike : (test : LinkTest) {R : Type 0} (Rel : R → R → Type 0) (otherwise other : R) (next also : ℕ → Link → R) → Rel otherwise other →
      ((n : ℕ) (l : Link) → Rel (next n l) (also n l)) →
      Rel (with_seen (in_use With) test s otherwise next) (with_seen (in_use With) test t other also)
  use_alike test Rel otherwise other next also none some = seen_alike (in_use With) use_gone test Rel otherwise other next also none some

-- ---- changes

pub changed_alike : (s t : machine.Links) → Alike s t → (n : ℕ) (l : Link) → Alike (changed n l s) (changed n l t)
changed_alike s t a n l = record {
  node = a.node;
  peer = a.peer;
  size = length-set s.links n l ∙ a.size ∙ sym (length-set t.links n l);
  all = λ i x y at_x at_y. go i x y (at_set s.links n i l x at_x) (at_set t.links n i l y at_y);
}
  where
    go : (i : ℕ) (x y : Link) → ((i ≡ n) × (l ≡ x)) ⊎ ((i ≡ n → ⊥) × (slice_get s.links i ≡ Some x)) →
        ((i ≡ n) × (l ≡ y)) ⊎ ((i ≡ n → ⊥) × (slice_get t.links i ≡ Some y)) → AreSameOrGone x y
    go i x y (inl p) (inl q) = inl (sym p.1 ∙ q.1)
    go i x y (inl p) (inr q) = absurd (q.0 p.0)
    go i x y (inr p) (inl q) = absurd (p.0 q.0)
    go i x y (inr p) (inr q) = a.all i x y p.1 q.1

pub begun_alike : (s t : machine.Links) → Alike s t → (l : Link) → Alike (begun l s) (begun l t)
begun_alike s t a l = record {
  node = a.node;
  peer = a.peer;
  size = let p = length-append s.links (l ∷ []) in let q = length-append t.links (l ∷ []) in let e = a.size in omega (arith, p, q, e);
  all = λ i x y at_x at_y. go i x y (at_pushed s.links l x i at_x) (at_pushed t.links l y i at_y);
}
  where
    go : (i : ℕ) (x y : Link) → (slice_get s.links i ≡ Some x) ⊎ ((i ≡ length s.links) × (l ≡ x)) →
        (slice_get t.links i ≡ Some y) ⊎ ((i ≡ length t.links) × (l ≡ y)) → AreSameOrGone x y
    go i x y (inl p) (inl q) = a.all i x y p q
    go i x y (inl p) (inr q) = let w = slice_get_within s.links i x p in let e = a.size in let f = q.0 in absurd (omega (arith, w, e, f))
    go i x y (inr p) (inl q) = let w = slice_get_within t.links i y q in let e = a.size in let f = p.0 in absurd (omega (arith, w, e, f))
    go i x y (inr p) (inr q) = inl (sym p.1 ∙ q.1)

booted_alike : (s t : machine.Links) → Alike s t → Alike (booted true_segments With s) (booted true_segments With t)
booted_alike s t a = record {
  node = a.node;
  peer = a.peer;
  size = length-map s.links over ∙ a.size ∙ sym (length-map t.links over);
  all = λ i x y at_x at_y. at i x y (slice_get s.links i) (slice_get t.links i) refl refl
      (sym (slice_get-map over s.links i) ∙ at_x) (sym (slice_get-map over t.links i) ∙ at_y);
}
  where
    over : Link → Link
    over l = booted_link true_segments With l

    same : (x y : Link) → AreSameOrGone x y → AreSameOrGone (over x) (over y)
    same x y (inl e) = inl (ap over e)
    same x y (inr g) = inr (
      record { phase = refl; own = refl; waits = refl; answered = still x g.0.answered },
      record { phase = refl; own = refl; waits = refl; answered = still y g.1.answered },
    )
      where
        still : (l : Link) → IsAnswered l.segments → IsAnswered (over l).segments
        still l answered = subst IsAnswered (sym (drops_still l.port.opened l.segments)) answered

    at : (i : ℕ) (x y : Link) (o p : Option Link) → slice_get s.links i ≡ o → slice_get t.links i ≡ p → option_map over o ≡ Some x →
        option_map over p ≡ Some y → AreSameOrGone x y
    at i x y (Some l) (Some k) at_l at_k e f =
        subst (λ (z : Link). AreSameOrGone z y) (same_Some (over l) x e)
        (subst (λ (z : Link). AreSameOrGone (over l) z) (same_Some (over k) y f) (same l k (a.all i l k at_l at_k)))
    at i x y None p at_l at_k e f = absurd cc
    at i x y (Some l) None at_l at_k e f = absurd cc

freed_alike : (s t : machine.Links) → Alike s t → (own : ℕ) → Alike (freed true_segments With own s) (freed true_segments With own t)
freed_alike s t a own = link_alike s t a (HasAddress own) Alike s t (λ n l. changed n (forgotten true_segments With l) s)
    (λ n l. changed n (forgotten true_segments With l) t) a (λ n l. changed_alike s t a n (forgotten true_segments With l))

pub after_alike : (s t : machine.Links) → Alike s t → (effects : List Effect) (number : Option ℕ) (link : Link) (known : Numbers) →
    Alike (after With true_segments s effects number link known) (after With true_segments t effects number link known)
after_alike s t a [] number link known = a
after_alike s t a (Settle own ∷ effects) number link known =
    link_alike s t a (HasAddress own) Alike s t (λ n l. changed n (settled true_segments l.queue.waits l) s)
    (λ n l. changed n (settled true_segments l.queue.waits l) t) a (λ n l. changed_alike s t a n (settled true_segments l.queue.waits l))
after_alike s t a (EndAll ∷ effects) number link known = booted_alike s t a
after_alike s t a (GiveAddress own ∷ effects) None link known =
    begun_alike (freed true_segments With own s) (freed true_segments With own t) (freed_alike s t a own) link
after_alike s t a (GiveAddress own ∷ effects) (Some n) link known =
    changed_alike (freed true_segments With own s) (freed true_segments With own t) (freed_alike s t a own) n link
after_alike s t a (effect ∷ effects) None link known = begun_alike s t a link
after_alike s t a (effect ∷ effects) (Some n) link known = changed_alike s t a n link

-- ---- rows

abbrev pub ResultsAlike : {R : Type 0} → (R → R → Type 0) → Result R LinkRefusal → Result R LinkRefusal → Type 0
ResultsAlike Rel (Ok x) (Ok y) = Rel x y
ResultsAlike Rel (Err x) (Err y) = x ≡ y
ResultsAlike Rel r q = ⊥

module _ {R : Type 0} (Rel : R → R → Type 0) where
  check_alike : (b : Bool) (refusal : LinkRefusal) (r q : Result R LinkRefusal) → ResultsAlike Rel r q →
      ResultsAlike Rel (check b refusal r) (check b refusal q)
  check_alike true refusal r q alike = alike
  check_alike false refusal r q alike = refl

  ok_alike : {X : Type 0} (o : Result X LinkRefusal) (f g : X → Result R LinkRefusal) → ((x : X) → ResultsAlike Rel (f x) (g x)) →
      ResultsAlike Rel (on_ok o f) (on_ok o g)
  ok_alike (Ok x) f g alike = alike x
  ok_alike (Err refusal) f g alike = refl

  pub goes_alike : (packet : Carried) (src dst src' dst' : ℕ) (r q : Result R LinkRefusal) → src ≡ src' → dst ≡ dst' → ResultsAlike Rel r q →
      ResultsAlike Rel (goes packet src dst r) (goes packet src' dst' q)
  goes_alike packet src dst src' dst' r q same_src same_dst alike =
      subst (λ (n : ℕ). ResultsAlike Rel (goes packet src dst r) (goes packet n dst' q)) same_src
      (subst (λ (n : ℕ). ResultsAlike Rel (goes packet src dst r) (goes packet src n q)) same_dst
      (check_alike (packet.src == src && packet.dst == dst) WrongNode r q alike))

  module _ (rule : Bool → Bool) (truth : LinkTruth Numbers) (s t : machine.Links) (a : Alike s t)
      (answer also : List Effect → Option ℕ → Link → Numbers → R)
      (same : (effects : List Effect) (number : Option ℕ) (link : Link) (known : Numbers) → Rel (answer effects number link known)
      (also effects number link known)) where
    otherwise_alike : (effects : List Effect) (refusal : Option LinkRefusal) →
        ResultsAlike Rel (otherwise With true_segments rule truth s answer effects refusal)
        (otherwise With true_segments rule truth t also effects refusal)
    otherwise_alike effects None = same [] None _ _
    otherwise_alike effects (Some refusal) = refl

    asked_alike : (effects : List Effect) (asks : List Ask) (number : Option ℕ) (link : Link) (known : Numbers) →
        ResultsAlike Rel (asked With true_segments rule truth s answer effects asks number link known)
        (asked With true_segments rule truth t also effects asks number link known)
    asked_alike effects [] number link known = same effects number _ known
    asked_alike effects (Finds test refusal ∷ asks) number link known =
        link_alike s t a test (ResultsAlike Rel) _ _ _ _ (otherwise_alike effects refusal) (λ n l. asked_alike effects asks (Some n) l _)
    asked_alike effects (FindsEither first second refusal ∷ asks) number link known =
        link_alike s t a first (ResultsAlike Rel) _ _ _ _
        (link_alike s t a second (ResultsAlike Rel) _ _ _ _ (otherwise_alike effects refusal) (λ n l. asked_alike effects asks (Some n) l _))
        (λ n l. asked_alike effects asks (Some n) l _)
    asked_alike effects (FindsNone test refusal ∷ asks) number link known =
        link_alike s t a test (ResultsAlike Rel) _ _ _ _ (asked_alike effects asks number link known) (λ n l. otherwise_alike effects refusal)
    asked_alike effects (FindsInUse test refusal ∷ asks) number link known =
        link_alike s t a test (ResultsAlike Rel) _ _ _ _
        (use_alike s t a test (ResultsAlike Rel) (Err refusal) (Err refusal) _ _ refl (λ n l. asked_alike effects asks (Some n) l _))
        (λ n l. asked_alike effects asks (Some n) l _)
    asked_alike effects (KnowsInUse test refusal ∷ asks) number link known =
        link_alike s t a test (ResultsAlike Rel) _ _ _ _
        (use_alike s t a test (ResultsAlike Rel) (Err refusal) (Err refusal) _ _ refl (λ n l. asked_alike effects asks number link known))
        (λ n l. asked_alike effects asks (Some n) l _)
    asked_alike effects (InPhase phases refusal ∷ asks) number link known =
        check_alike (phases (in_use With link).phase) _ _ _ (asked_alike effects asks number link known)
    asked_alike effects (InTurn phase refusal ∷ asks) number link known =
        check_alike (may_send With phase link) refusal _ _ (asked_alike effects asks number link known)
    asked_alike effects (OrElse true others ∷ asks) number link known = asked_alike effects asks number link known
    asked_alike effects (OrElse false others ∷ asks) number link known = same others None _ truth.known
    asked_alike effects (ForThisLink refusal ∷ asks) number link known = check_alike _ refusal _ _ (asked_alike effects asks number link known)
    asked_alike effects (OfThisPair refusal ∷ asks) number link known = check_alike _ refusal _ _ (asked_alike effects asks number link known)
    asked_alike effects (Delivers message refusal ∷ asks) number link known = ok_alike _ _ _ (λ d. asked_alike effects asks number _ known)
    asked_alike effects (SendsSegment segment ∷ asks) number link known = ok_alike _ _ _ (λ sent. asked_alike effects asks number _ _)
    asked_alike effects (SendsAcks acks ∷ asks) number link known = ok_alike _ _ _ (λ sent. asked_alike effects asks number _ _)

    pub row_alike : (row : Row) → ResultsAlike Rel (by_row With true_segments rule truth s answer row)
        (by_row With true_segments rule truth t also row)
    row_alike (Asks asks effects) = asked_alike effects asks None _ truth.known
