-- All links of a side are read off its user's events: each event keeps it so.
use Rattle.std.proofs.Common.{◌≡◌, ℕ, ◌≤◌, Bool, true, false, ◌==◌, cond, ◌⊎◌, inl, inr, Option, Some, None, List, [], ◌∷◌, ◌++◌, length}
use Rattle.std.proofs.Common.{map, refl, sym, ap, ◌∙◌, subst, arith, append-nil, length-set, eq-eqb, ne_eqb}
use Rattle.std.specs.Prelude.{slice_get, slice_set}
use Rattle.std.proofs.lemmas.Bool.{and_parts}
use Rattle.std.proofs.lemmas.List.{length-map}
use Rattle.std.proofs.lemmas.Option.{same_Some}
use Rattle.dna_links.specs.Queues.{ended, booted_link}
use Rattle.dna_links.specs.declared.queue.Queues.TheVariants.{Without}
use Rattle.dna_links.specs.declared.port.Phase.TheVariants.{Confirming, Disconnecting}
use Rattle.dna_links.specs.LookUps.{is_at, is_live, is_called}
use Rattle.dna_links.specs.Links.{LinkOf, changed, in_phase, with_segments}
use Rattle.dna_links.specs.User.{LinkEventValue, Open, Accept, Reject, In, Up, Close, Abort, Boot}
use Rattle.dna_links.specs.inner.Forms.{called}
use Rattle.dna_links.specs.TrueSegments.{TrueSegments, true_segments}
use Rattle.dna_links.specs.TrueSegments as segments
use Rattle.dna_links.specs.TrueLinks.{Links}
use Rattle.dna_links.specs.Captures.{given_address, gives_address, message_in, message_up, behind}
use Rattle.two_nodes.proofs.NumberedSteps.{at_pushed}
use Rattle.dna_links.proofs.Runs.Loose.{UserDid, Opens, Accepts, Rejects, HandsIn, Delivers, Closes, ClosesLate, Aborts, Boots}
use Rattle.dna_links.proofs.Runs.Pieces.{delivered_is}
use Rattle.dna_links.proofs.Runs.Sides.{at_set, all_set, all_map}
use Rattle.dna_links.proofs.Runs.Reads.{given_again, HoldsFrom, IsOwned, at_is, owned_more}
use Rattle.dna_links.proofs.Runs.Owners.{AreOwned, unique, lost_by}
use Rattle.dna_links.proofs.Runs.GivenAddress.{answered_owned, opened_owned}

module _ (events : List LinkEventValue) (s : Links) (o : AreOwned events s.links) where
  -- ---- an event that gives no address

  module _ (event : LinkEventValue) (gives_none : given_address event ≡ None) where
    owned_event : (links : List (LinkOf TrueSegments)) → length s.links ≤ length links →
        ((i : ℕ) (link : LinkOf TrueSegments) → slice_get links i ≡ Some link → IsOwned (events ++ event ∷ []) (o.place_of i) link) →
        AreOwned (events ++ event ∷ []) links
    owned_event links longer owned =
        record {
          place_of = o.place_of;
          owned = owned;
          within = λ i place at. let w = o.within i place at in omega arith;
          once = o.once;
          all =
              λ place own e at gives. go place own e gives (at_pushed events event e place at);
        }
      where
        go : (place own : ℕ) (e : LinkEventValue) → given_address e ≡ Some own → (slice_get events place ≡ Some e) ⊎
            ((place ≡ length events) × (event ≡ e)) → (i : ℕ) × (o.place_of i ≡ Some place)
        go place own e gives (inl at) = o.all place own e at gives
        go place own e gives (inr same) = let x : None ≡ Some own = sym gives_none ∙ ap given_address same.1 ∙ gives in absurd cc

    gives_false : (own : ℕ) → gives_address own event ≡ false
    gives_false own = ap (λ (x : Option ℕ). is_at x own) gives_none

    -- of a link at which it has no message
    quiet : (i : ℕ) (l m : LinkOf TrueSegments) → slice_get s.links i ≡ Some l →
        ((k : ℕ) (h : HoldsFrom events l.port.own k) → o.place_of i ≡ Some k → l.port.own ≡ None → given_again h.address (behind k events) ≡ false →
        (message_in h.address event ≡ []) × (message_up h.address event ≡ [])) →
        ((own : ℕ) → l.port.own ≡ Some own → (message_in own event ≡ []) × (message_up own event ≡ [])) → m.port.own ≡ l.port.own →
        m.segments ≡ l.segments →
        (is_called m.port.phase ≡ true → is_called l.port.phase ≡ true) → (is_live m.port.phase ≡ true → is_live l.port.phase ≡ true) →
        IsOwned (events ++ event ∷ []) (o.place_of i) m
    quiet i l m at lost silent own same called live = owned_more events event l m (o.place_of i) (o.owned i l at)
        (λ none. record { handed = ap (λ (f : TrueSegments). f.handed) same; up = ap (λ (f : TrueSegments). f.delivered) same; own = own })
        lost
        (λ address is. let q = silent address is in record {
          handed = ap (λ (f : TrueSegments). f.handed) same ∙ sym (append-nil l.segments.handed) ∙ ap
              (λ (x : List (List ℕ)). l.segments.handed ++ x) (sym q.0);
          up = ap (λ (f : TrueSegments). f.delivered) same ∙ sym (append-nil l.segments.delivered) ∙ ap
              (λ (x : List (List ℕ)). l.segments.delivered ++ x)
              (sym q.1);
          own = inl (own ∙ is, gives_false address);
        })
        called (λ alive none. ap (λ (f : TrueSegments). f.received) same ∙ (o.owned i l at).fresh (live alive) (sym own ∙ none))

    -- where it has none at all, each link that is the same
    same_quiet : ((address : ℕ) → (message_in address event ≡ []) × (message_up address event ≡ [])) → (i : ℕ) (l : LinkOf TrueSegments) →
        slice_get s.links i ≡ Some l → IsOwned (events ++ event ∷ []) (o.place_of i) l
    same_quiet silent i l at =
        quiet i l l at (λ k h at none never. silent h.address) (λ address is. silent address) refl refl (λ c. c) (λ c. c)

  -- a message is handed in at an address, or delivered there
  module _ (event : LinkEventValue) (gives_none : given_address event ≡ None) (own number : ℕ) (link left : LinkOf TrueSegments)
      (there : slice_get s.links number ≡ Some link) (has : link.port.own ≡ Some own)
      (silent : (address : ℕ) → (own ≡ address → ⊥) → (message_in address event ≡ []) × (message_up address event ≡ []))
      (same_port : left.port ≡ link.port) (same_received : left.segments.received ≡ link.segments.received)
      (handed : left.segments.handed ≡ link.segments.handed ++ message_in own event)
      (up : left.segments.delivered ≡ link.segments.delivered ++ message_up own event)
    where
      message_owned : AreOwned (events ++ event ∷ []) (changed number left s).links
      message_owned = owned_event event gives_none (slice_set s.links number left) (let l = length-set s.links number left in omega arith)
          (λ i l at. go i l (at_set s.links number i left l at))
        where
          here : IsOwned (events ++ event ∷ []) (o.place_of number) left
          here = owned_more events event link left (o.place_of number) (o.owned number link there)
              (λ none. let e = sym has ∙ none in absurd cc) (λ k h at none. let e = sym has ∙ none in absurd cc)
              (λ address is. let same : own ≡ address = same_Some own address (sym has ∙ is) in record {
                handed = handed ∙ ap (λ (n : ℕ). link.segments.handed ++ message_in n event) same;
                up = up ∙ ap (λ (n : ℕ). link.segments.delivered ++ message_up n event) same;
                own = inl (ap (λ p. p.own) same_port ∙ is, gives_false event gives_none address);
              })
              (λ c. ap (λ p. is_called p.phase) (sym same_port) ∙ c)
              (λ live none. let e = sym has ∙ ap (λ p. p.own) (sym same_port) ∙ none in absurd cc)

          go : (i : ℕ) (l : LinkOf TrueSegments) → ((i ≡ number) × (left ≡ l)) ⊎ ((i ≡ number → ⊥) × (slice_get s.links i ≡ Some l)) →
              IsOwned (events ++ event ∷ []) (o.place_of i) l
          go i l (inl e) = subst (λ (j : ℕ). IsOwned (events ++ event ∷ []) (o.place_of j) l) (sym e.0)
              (subst (IsOwned (events ++ event ∷ []) (o.place_of number)) e.1 here)
          go i l (inr e) = quiet event gives_none i l l e.1
              (λ k h at none never. silent h.address (λ same. lost_by events s o i number k own l link h e.1 there at none never (sym same) has))
              (λ address is. silent address (λ same. e.0 (unique events s o i number own l link e.1 there (is ∙ ap Some (sym same)) has))) refl refl
              (λ c. c) (λ c. c)

  -- ---- every event

  at_other : (message : List ℕ) (own address : ℕ) → (own ≡ address → ⊥) → cond (own == address) (message ∷ []) [] ≡ []
  at_other message own address differs = ap (λ (b : Bool). cond b (message ∷ []) []) (ne_eqb own address differs)

  at_own : (message : List ℕ) (own : ℕ) → message ∷ [] ≡ cond (own == own) (message ∷ []) []
  at_own message own = ap (λ (b : Bool). cond b (message ∷ []) []) (sym (eq-eqb own own refl))

  pub user_owned : (event : LinkEventValue) (left : Links) → UserDid s event left → AreOwned (events ++ event ∷ []) left.links
  user_owned event left (Opens own free) = opened_owned events s o (Open own) own refl free
  user_owned event left (Accepts far own number link found free) =
      answered_owned events s o (Accept far own) own refl free Confirming number link found.there
      (and_parts (is_called link.port.phase) (is_at link.port.far far) found.passed).0 refl
  user_owned event left (Rejects far own number link found free) =
      answered_owned events s o (Reject far own) own refl free Disconnecting number link found.there
      (and_parts (is_called link.port.phase) (is_at link.port.far far) found.passed).0 refl
  user_owned event left (HandsIn own message number link there owns) =
      message_owned (In own message) refl own number link (with_segments (segments.hands_in message link.segments) link) there
      (at_is link.port.own own owns)
      (λ address differs. (at_other message own address differs, refl)) refl refl
      (ap (λ (x : List (List ℕ)). link.segments.handed ++ x) (at_own message own)) (sym (append-nil link.segments.delivered))
  user_owned event left (Delivers own message number link next found delivers) =
      let d = delivered_is message link.segments next delivers in
      message_owned (Up own message) refl own number link (with_segments next link) found.there (at_is link.port.own own found.passed)
      (λ address differs. (refl, at_other message own address differs)) refl (ap (λ (f : TrueSegments). f.received) d.is)
      (ap (λ (f : TrueSegments). f.handed) d.is ∙ sym (append-nil link.segments.handed))
      (ap (λ (f : TrueSegments). f.delivered) d.is ∙ ap (λ (x : List ℕ). link.segments.delivered ++ x ∷ []) (sym d.message_is) ∙
      ap (λ (x : List (List ℕ)). link.segments.delivered ++ x) (at_own message own))
  user_owned event left (Closes own number link there live) =
      owned_event (Close own) refl (slice_set s.links number (in_phase Disconnecting link))
      (let l = length-set s.links number (in_phase Disconnecting link) in omega arith)
      (all_set (λ (i : ℕ) (l : LinkOf TrueSegments). IsOwned (events ++ Close own ∷ []) (o.place_of i) l) s.links number (in_phase Disconnecting link)
      (quiet (Close own) refl number link (in_phase Disconnecting link) there (λ k h at none never. (refl, refl)) (λ address is. (refl, refl))
      refl refl (λ c. absurd cc) (λ still. live))
      (same_quiet (Close own) refl (λ address. (refl, refl))))
  user_owned event left (ClosesLate own) =
      owned_event (Close own) refl s.links (omega arith) (same_quiet (Close own) refl (λ address. (refl, refl)))
  user_owned event left (Aborts own number link there) =
      owned_event (Abort own) refl (slice_set s.links number (ended true_segments link))
      (let l = length-set s.links number (ended true_segments link) in omega arith)
      (all_set (λ (i : ℕ) (l : LinkOf TrueSegments). IsOwned (events ++ Abort own ∷ []) (o.place_of i) l) s.links number (ended true_segments link)
      (quiet (Abort own) refl number link (ended true_segments link) there (λ k h at none never. (refl, refl)) (λ address is. (refl, refl)) refl refl
      (λ c. absurd cc) (λ still. absurd cc))
      (same_quiet (Abort own) refl (λ address. (refl, refl))))
  user_owned event left Boots =
      owned_event Boot refl (map (booted_link true_segments Without) s.links)
      (let l = length-map s.links (booted_link true_segments Without) in omega arith)
      (all_map (λ (i : ℕ) (l : LinkOf TrueSegments). IsOwned (events ++ Boot ∷ []) (o.place_of i) l) (booted_link true_segments Without) s.links
      (λ i l at. owned_more events Boot l (booted_link true_segments Without l) (o.place_of i) (o.owned i l at)
      (λ none. record { handed = refl; up = refl; own = sym none }) (λ k h at none never. (refl, refl))
      (λ address is. record { handed = sym (append-nil l.segments.handed); up = sym (append-nil l.segments.delivered); own = inr refl })
      (λ c. absurd cc) (λ live none. absurd cc)))
