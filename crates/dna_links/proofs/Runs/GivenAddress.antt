-- An event that gives a link its address: all links of the side are still read off its user's events.
use Rattle.std.proofs.Common.{◌≡◌, ℕ, ◌<◌, ◌≤◌, Bool, true, false, ◌&&◌, ◌==◌, cond, ◌⊎◌, inl, inr, Option, Some, None, List, [], ◌∷◌, ◌++◌, length}
use Rattle.std.proofs.Common.{refl, sym, ap, ◌∙◌, subst, arith, append-nil, length-append, length-set, eq-eqb, ne_eqb}
use Rattle.std.specs.Prelude.{slice_get, slice_set}
use Rattle.std.proofs.lemmas.Bool.{and_from, cases_eq}
use Rattle.std.proofs.lemmas.Option.{same_Some, slice_get_within}
use Rattle.two_nodes.proofs.Listed.{next_at}
use Rattle.dna_links.specs.Queues.{forgotten, freed}
use Rattle.dna_links.specs.declared.queue.Queues.TheVariants.{Without}
use Rattle.dna_links.specs.declared.port.Phase.{Phase}
use Rattle.dna_links.specs.declared.port.LinkTest.TheVariants.{HasAddress, LiveAt}
use Rattle.dna_links.specs.LookUps.{passes, is_at, is_live, is_called}
use Rattle.dna_links.specs.Links.{LinkOf, number_of, begun, changed}
use Rattle.dna_links.specs.User.{LinkEventValue, Open, Accept, Reject}
use Rattle.dna_links.specs.inner.Forms.{opened, answered}
use Rattle.dna_links.specs.inner.Forms.{called}
use Rattle.dna_links.specs.TrueSegments.{TrueSegments, true_segments}
use Rattle.dna_links.specs.TrueLinks.{Links}
use Rattle.dna_links.specs.Captures.{given_address, gives_address, message_in, message_up, handed_in, delivered_up, IsRead}
use Rattle.two_nodes.proofs.NumberedSteps.{at_pushed}
use Rattle.dna_links.proofs.Tables.Outcomes.{IsFound, looked, position_none}
use Rattle.dna_links.proofs.Runs.Sides.{set_same, at_set}
use Rattle.dna_links.proofs.Runs.Reads.{given_again, IsOwned, at_is, owned_more, behind_last}
use Rattle.dna_links.proofs.Runs.Owners.{AreOwned, there_is, place_beyond, place_below, unique}

module _ (events : List LinkEventValue) (s : Links) (o : AreOwned events s.links) where
  module _ (event : LinkEventValue) (own : ℕ) (gives : given_address event ≡ Some own) (free : number_of (LiveAt own) s ≡ None) where
    giving_none : (e : LinkEventValue) (n : ℕ) → given_address e ≡ Some n → (address : ℕ) → (message_in address e ≡ []) × (message_up address e ≡ [])
    giving_none (Open link) n g address = (refl, refl)
    giving_none (Accept far link) n g address = (refl, refl)
    giving_none (Reject far link) n g address = (refl, refl)
    giving_none other n g address = absurd cc

    gives_other : (address : ℕ) → (own ≡ address → ⊥) → gives_address address event ≡ false
    gives_other address differs = ap (λ (x : Option ℕ). is_at x address) gives ∙ ne_eqb own address differs

    -- a link with another address, or with none
    other_owned : (i : ℕ) (l : LinkOf TrueSegments) → slice_get s.links i ≡ Some l → (l.port.own ≡ Some own → ⊥) →
        IsOwned (events ++ event ∷ []) (o.place_of i) l
    other_owned i l at differs = owned_more events event l l (o.place_of i) (o.owned i l at) (λ none. record { handed = refl; up = refl; own = refl })
        (λ k h at none never. giving_none event own gives h.address)
        (λ address is. let q = giving_none event own gives address in record {
          handed = sym (append-nil l.segments.handed) ∙ ap (λ (x : List (List ℕ)). l.segments.handed ++ x) (sym q.0);
          up = sym (append-nil l.segments.delivered) ∙ ap (λ (x : List (List ℕ)). l.segments.delivered ++ x) (sym q.1);
          own = inl (is, gives_other address (λ same. differs (is ∙ ap Some (sym same))));
        })
        (λ c. c) (o.owned i l at).fresh

    -- the link that had the address
    forgotten_owned : (i : ℕ) (l : LinkOf TrueSegments) → slice_get s.links i ≡ Some l → l.port.own ≡ Some own →
        IsOwned (events ++ event ∷ []) (o.place_of i) (forgotten true_segments Without l)
    forgotten_owned i l at has =
        owned_more events event l (forgotten true_segments Without l) (o.place_of i) (o.owned i l at) (λ none. let e = sym has ∙ none in absurd cc)
        (λ k h at none never. giving_none event own gives h.address)
        (λ address is. let q = giving_none event own gives address in record {
          handed = sym (append-nil l.segments.handed) ∙ ap (λ (x : List (List ℕ)). l.segments.handed ++ x) (sym q.0);
          up = sym (append-nil l.segments.delivered) ∙ ap (λ (x : List (List ℕ)). l.segments.delivered ++ x) (sym q.1);
          own = inr refl;
        })
        (λ c. c) (λ live none. absurd (dead live))
      where
        dead : is_live l.port.phase ≡ true → ⊥
        dead live =
            let f = position_none (λ (k : LinkOf TrueSegments). passes (LiveAt own) k.port) s.links i l free at in
            let t : (is_live l.port.phase && is_at l.port.own own) ≡ true =
            and_from _ _ live (ap (λ (x : Option ℕ). is_at x own) has ∙ eq-eqb own own refl) in
            absurd cc

    -- all links, once the address is free
    freed_owned : (i : ℕ) (l : LinkOf TrueSegments) → slice_get (freed true_segments Without own s).links i ≡ Some l →
        IsOwned (events ++ event ∷ []) (o.place_of i) l
    freed_owned =
        looked (HasAddress own) s s (λ number link. changed number (forgotten true_segments Without link) s) (freed true_segments Without own s) refl
        (λ none e. subst (λ (x : Links). (i : ℕ) (l : LinkOf TrueSegments) → slice_get x.links i ≡ Some l →
        IsOwned (events ++ event ∷ []) (o.place_of i) l) e
        (λ i l at. other_owned i l at
        (λ has. let f = position_none (λ (k : LinkOf TrueSegments). passes (HasAddress own) k.port) s.links i l none at in
        let t = ap (λ (x : Option ℕ). is_at x own) has ∙ eq-eqb own own refl in absurd cc)))
        (λ number link found e. subst
        (λ (x : Links). (i : ℕ) (l : LinkOf TrueSegments) → slice_get x.links i ≡ Some l → IsOwned (events ++ event ∷ []) (o.place_of i) l) e
        (λ i l at. go number link found i l (at_set s.links number i (forgotten true_segments Without link) l at)))
      where
        go : (number : ℕ) (link : LinkOf TrueSegments) → IsFound (HasAddress own) s number link → (i : ℕ) (l : LinkOf TrueSegments) →
            ((i ≡ number) × (forgotten true_segments Without link ≡ l)) ⊎ ((i ≡ number → ⊥) × (slice_get s.links i ≡ Some l)) →
            IsOwned (events ++ event ∷ []) (o.place_of i) l
        go number link found i l (inl e) =
            subst (λ (j : ℕ). IsOwned (events ++ event ∷ []) (o.place_of j) l) (sym e.0)
            (subst (IsOwned (events ++ event ∷ []) (o.place_of number)) e.1
            (forgotten_owned number link found.there (at_is link.port.own own found.passed)))
        go number link found i l (inr e) =
            other_owned i l e.1 (λ has. e.0 (unique events s o i number own l link e.1 found.there has (at_is link.port.own own found.passed)))

    same_long : length (freed true_segments Without own s).links ≡ length s.links
    same_long =
        looked (HasAddress own) s s (λ number link. changed number (forgotten true_segments Without link) s) (freed true_segments Without own s) refl
        (λ none e. ap (λ (x : Links). length x.links) (sym e))
        (λ number link found e. ap (λ (x : Links). length x.links) (sym e) ∙ length-set s.links number (forgotten true_segments Without link))

    -- one link gets this place, and had none
    module _ (number : ℕ) (left : LinkOf TrueSegments) (links : List (LinkOf TrueSegments)) (none : o.place_of number ≡ None)
        (here : slice_get links number ≡ Some left) (longer : length s.links ≤ length links) (has : left.port.own ≡ Some own)
        (not_called : is_called left.port.phase ≡ false) (handed : left.segments.handed ≡ []) (up : left.segments.delivered ≡ [])
        (others : (i : ℕ) (l : LinkOf TrueSegments) → slice_get links i ≡ Some l → ((i ≡ number) × (left ≡ l)) ⊎
        ((i ≡ number → ⊥) × IsOwned (events ++ event ∷ []) (o.place_of i) l)) where
      abbrev placed : ℕ → Option ℕ
      placed i = cond (i == number) (Some (length events)) (o.place_of i)

      placed_here : placed number ≡ Some (length events)
      placed_here = ap (λ (b : Bool). cond b (Some (length events)) (o.place_of number)) (eq-eqb number number refl)

      placed_other : (i : ℕ) → (i ≡ number → ⊥) → placed i ≡ o.place_of i
      placed_other i differs = ap (λ (b : Bool). cond b (Some (length events)) (o.place_of i)) (ne_eqb i number differs)

      left_owned : IsOwned (events ++ event ∷ []) (Some (length events)) left
      left_owned = record {
        read = record {
          event = event;
          there = next_at events [] event;
          own = own;
          gives = gives;
          handed = handed ∙ ap (λ (x : List LinkEventValue). handed_in own x) (sym (behind_last events event));
          up = up ∙ ap (λ (x : List LinkEventValue). delivered_up own x) (sym (behind_last events event));
        };
        holds = record {
          address = own;
          event = event;
          there = next_at events [] event;
          gives = gives;
          holds =
              inl (has, ap (given_again own) (behind_last events event));
        };
        called = λ c. let n = not_called in absurd cc;
        fresh = λ live n. let e = sym has ∙ n in absurd cc;
      }

      pub given_owned : AreOwned (events ++ event ∷ []) links
      given_owned = record {
        place_of = placed;
        owned = λ i l at. own_at i l (others i l at);
        within = λ i place at. within_at i place at (cases_eq i number);
        once = λ i j place at_i at_j. once_at i j place at_i at_j (cases_eq i number) (cases_eq j number);
        all = λ place address e at g. all_at place address e g (at_pushed events event e place at);
      }
        where
          own_at : (i : ℕ) (l : LinkOf TrueSegments) → ((i ≡ number) × (left ≡ l)) ⊎
              ((i ≡ number → ⊥) × IsOwned (events ++ event ∷ []) (o.place_of i) l) → IsOwned (events ++ event ∷ []) (placed i) l
          own_at i l (inl e) =
              subst (λ (p : Option ℕ). IsOwned (events ++ event ∷ []) p l) (sym (ap placed e.0 ∙ placed_here))
              (subst (IsOwned (events ++ event ∷ []) (Some (length events))) e.1 left_owned)
          own_at i l (inr e) = subst (λ (p : Option ℕ). IsOwned (events ++ event ∷ []) p l) (sym (placed_other i e.0)) e.1

          within_at : (i place : ℕ) → placed i ≡ Some place → (i ≡ number) ⊎ (i ≡ number → ⊥) → i < length links
          within_at i place at (inl e) = let w = slice_get_within links number left here in omega arith
          within_at i place at (inr d) = let w = o.within i place (sym (placed_other i d) ∙ at) in omega arith

          once_at : (i j place : ℕ) → placed i ≡ Some place → placed j ≡ Some place → (i ≡ number) ⊎ (i ≡ number → ⊥) →
              (j ≡ number) ⊎ (j ≡ number → ⊥) → i ≡ j
          once_at i j place at_i at_j (inl e) (inl f) = e ∙ sym f
          once_at i j place at_i at_j (inl e) (inr f) =
              let p : length events ≡ place = same_Some (length events) place (sym (ap placed e ∙ placed_here) ∙ at_i) in
              let w = place_below events s o j place (sym (placed_other j f) ∙ at_j) in absurd (omega arith)
          once_at i j place at_i at_j (inr e) (inl f) =
              let p : length events ≡ place = same_Some (length events) place (sym (ap placed f ∙ placed_here) ∙ at_j) in
              let w = place_below events s o i place (sym (placed_other i e) ∙ at_i) in absurd (omega arith)
          once_at i j place at_i at_j (inr e) (inr f) = o.once i j place (sym (placed_other i e) ∙ at_i) (sym (placed_other j f) ∙ at_j)

          all_at : (place address : ℕ) (e : LinkEventValue) → given_address e ≡ Some address → (slice_get events place ≡ Some e) ⊎
              ((place ≡ length events) × (event ≡ e)) → (i : ℕ) × (placed i ≡ Some place)
          all_at place address e g (inl at) =
              let a = o.all place address e at g in
              (a.0, placed_other a.0 (λ same. let x : None ≡ Some place = sym none ∙ ap o.place_of (sym same) ∙ a.1 in absurd cc) ∙ a.1)
          all_at place address e g (inr same) = (number, placed_here ∙ ap Some (sym same.0))

    -- the link in Called that is answered
    pub answered_owned : (phase : Phase) (number : ℕ) (link : LinkOf TrueSegments) → slice_get s.links number ≡ Some link →
        is_called link.port.phase ≡ true →
        is_called phase ≡ false →
        AreOwned (events ++ event ∷ []) (changed number (answered true_segments phase own link) (freed true_segments Without own s)).links
    answered_owned phase number link there called not_called =
        given_owned number (answered true_segments phase own link)
        (slice_set (freed true_segments Without own s).links number (answered true_segments phase own link))
        none (let t = there_is (freed true_segments Without own s).links number
        (let w = slice_get_within s.links number link there in let l = same_long in omega arith) in
        set_same (freed true_segments Without own s).links number t.0 (answered true_segments phase own link) t.1)
        (let l = length-set (freed true_segments Without own s).links number (answered true_segments phase own link) in
        let m = same_long in omega arith) refl
        not_called neither.0 neither.1
        (λ i l at. go i l (at_set (freed true_segments Without own s).links number i (answered true_segments phase own link) l at))
      where
        none : o.place_of number ≡ None
        none = (o.owned number link there).called called

        neither : (link.segments.handed ≡ []) × (link.segments.delivered ≡ [])
        neither = let r = subst (λ (p : Option ℕ). IsRead events link p) none (o.owned number link there).read in (r.handed, r.up)

        go : (i : ℕ) (l : LinkOf TrueSegments) → ((i ≡ number) × (answered true_segments phase own link ≡ l)) ⊎
            ((i ≡ number → ⊥) × (slice_get (freed true_segments Without own s).links i ≡ Some l)) →
            ((i ≡ number) × (answered true_segments phase own link ≡ l)) ⊎ ((i ≡ number → ⊥) × IsOwned (events ++ event ∷ []) (o.place_of i) l)
        go i l (inl e) = inl e
        go i l (inr e) = inr (e.0, freed_owned i l e.1)

    -- the link that is opened
    pub opened_owned : AreOwned (events ++ event ∷ []) (begun (opened true_segments own) (freed true_segments Without own s)).links
    opened_owned =
        given_owned (length s.links) (opened true_segments own) ((freed true_segments Without own s).links ++ opened true_segments own ∷ [])
        (place_beyond events s o)
        (ap (slice_get ((freed true_segments Without own s).links ++ opened true_segments own ∷ [])) (sym same_long) ∙
        next_at (freed true_segments Without own s).links [] (opened true_segments own))
        (let l = length-append (freed true_segments Without own s).links (opened true_segments own ∷ []) in let m = same_long in
        omega arith) refl refl refl refl
        (λ i l at. go i l (at_pushed (freed true_segments Without own s).links (opened true_segments own) l i at))
      where
        go : (i : ℕ) (l : LinkOf TrueSegments) → (slice_get (freed true_segments Without own s).links i ≡ Some l) ⊎
            ((i ≡ length (freed true_segments Without own s).links) × (opened true_segments own ≡ l)) →
            ((i ≡ length s.links) × (opened true_segments own ≡ l)) ⊎ ((i ≡ length s.links → ⊥) × IsOwned (events ++ event ∷ []) (o.place_of i) l)
        go i l (inl at) = inr (
          λ e. let w = slice_get_within (freed true_segments Without own s).links i l at in
              let m = same_long in absurd (omega arith),
          freed_owned i l at,
        )
        go i l (inr e) = inl (e.0 ∙ same_long, e.1)
