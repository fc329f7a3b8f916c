-- Two rings become one where two of their places exchange what they lead to
use Rattle.std.proofs.Common.{◌≡◌, ◌⊎◌, ℕ, ◌<◌, List, length, refl, sym, ap, ◌∙◌, subst, inl, inr, arith}
use Rattle.std.specs.List.{slice_index}
use Rattle.std.proofs.lemmas.Bool.{cases_eq}
use Rattle.std.proofs.lemmas.Bool.Decides.{nat_tests}
use Rattle.link_groups.proofs.Grouping.{same_relabelled}
use Rattle.link_groups.specs.inner.Labels.{AreNumbered, AreRelabelled, relabelled}
use Rattle.link_groups.specs.inner.Rings.{AreRings, LeadsTo}
use Rattle.link_groups.specs.inner.Rings.LeadsTo.{Here, On}

-- each place of its own
pub rings_of_one : (labels next : List ℕ) → AreNumbered labels → AreNumbered next → AreRings labels next
rings_of_one labels next l n = record {
  labelled = l.count;
  linked = n.count;
  named = λ place low. omega (arith, l.numbered place low);
  within = λ place low. omega (arith, n.numbered place low);
  along = λ place low. ap (slice_index labels) (n.numbered place low);
  around = λ from to low less e.
      let same : from ≡ to = sym (l.numbered from low) ∙ e ∙ l.numbered to less in
      subst (LeadsTo next from) same (Here from);
}

leads_over : {next : List ℕ} {from between to : ℕ} → LeadsTo next from between → LeadsTo next between to → LeadsTo next from to
leads_over (Here between) g = g
leads_over (On h) g = On (leads_over h g)

-- where `next` and `after` differ at two places alone, which exchange what they lead to
pub record AreExchanged (next after : List ℕ) (a b : ℕ) : Type 0 where
  pub at_a : slice_index after a ≡ slice_index next b
  pub at_b : slice_index after b ≡ slice_index next a
  pub others : (p : ℕ) → (p ≡ a → ⊥) → (p ≡ b → ⊥) → slice_index after p ≡ slice_index next p

exchanged_back : {next after : List ℕ} {a b : ℕ} → AreExchanged next after a b → AreExchanged next after b a
exchanged_back h = record { at_a = h.at_b; at_b = h.at_a; others = λ p x y. h.others p y x }

-- one step that leads as before
goes_on : {next after : List ℕ} {a b from to : ℕ} → AreExchanged next after a b → (from ≡ a → ⊥) → (from ≡ b → ⊥)
    → LeadsTo after (slice_index next from) to → LeadsTo after from to
goes_on {next} {after} {a} {b} {from} {to} h x y on = On (subst (λ (n : ℕ). LeadsTo after n to) (sym (h.others from x y)) on)

-- The ring of a, while b is of another
module _ (labels next after : List ℕ) (a b : ℕ) (rings : AreRings labels next) (exchanged : AreExchanged next after a b)
    (apart : slice_index labels a ≡ slice_index labels b → ⊥) where
  not_b : (p : ℕ) → slice_index labels p ≡ slice_index labels a → p ≡ b → ⊥
  not_b p h e = apart (sym h ∙ ap (slice_index labels) e)

  -- it still leads to a
  to_a : {from to : ℕ} → LeadsTo next from to → to ≡ a → from < 131072 → slice_index labels from ≡ slice_index labels a → LeadsTo after from a
  to_a (Here to) e low h = subst (LeadsTo after to) e (Here to)
  to_a (On {from} {to} on) e low h =
      elim (cases_eq from a) [
        | inl same ↦ subst (LeadsTo after from) same (Here from)
        | inr differ ↦ goes_on exchanged differ (not_b from h) (to_a on e (rings.within from low) (rings.along from low ∙ h))
      ]

  -- what it led to is led to still, or from b
  or_from_b : {from to : ℕ} → LeadsTo next from to → from < 131072 → slice_index labels from ≡ slice_index labels a
      → LeadsTo after from to ⊎ LeadsTo after b to
  or_from_b (Here to) low h = inl (Here to)
  or_from_b (On {from} {to} on) low h =
      elim (or_from_b on (rings.within from low) (rings.along from low ∙ h)) [
        | inl r ↦ elim (cases_eq from a) [
          | inl same ↦ inr (On (subst (λ (n : ℕ). LeadsTo after n to) (ap (slice_index next) same ∙ sym exchanged.at_b) r))
          | inr differ ↦ inl (goes_on exchanged differ (not_b from h) r)
        ]
        | inr r ↦ inr r
      ]

  -- all of the ring is led to from b
  from_b : (to : ℕ) → a < 131072 → to < 131072 → slice_index labels to ≡ slice_index labels a → LeadsTo after b to
  from_b to low less h =
      let around = rings.around (slice_index next a) to (rings.within a low) less (rings.along a low ∙ sym h) in
      elim (or_from_b around (rings.within a low) (rings.along a low)) [
        | inl r ↦ On (subst (λ (n : ℕ). LeadsTo after n to) (sym exchanged.at_b) r)
        | inr r ↦ r
      ]

  -- another ring is as it was
  still : {from to : ℕ} → LeadsTo next from to → from < 131072 → (slice_index labels from ≡ slice_index labels a → ⊥)
      → (slice_index labels from ≡ slice_index labels b → ⊥) → LeadsTo after from to
  still (Here to) low x y = Here to
  still (On {from} {to} on) low x y =
      goes_on exchanged (λ e. x (ap (slice_index labels) e)) (λ e. y (ap (slice_index labels) e))
      (still on (rings.within from low) (λ e. x (sym (rings.along from low) ∙ e)) (λ e. y (sym (rings.along from low) ∙ e)))

-- Both rings, of which one gets the label of the other
module _ (labels new next after : List ℕ) (a b : ℕ) (rings : AreRings labels next) (exchanged : AreExchanged next after a b)
    (low_a : a < 131072) (low_b : b < 131072) (apart : slice_index labels a ≡ slice_index labels b → ⊥)
    (moved : AreRelabelled (slice_index labels b) (slice_index labels a) labels new) (linked : length after ≡ length next) where
  toward_a : (p : ℕ) → p < 131072 → slice_index labels p ≡ slice_index labels a → LeadsTo after p a
  toward_a p low h = to_a labels next after a b rings exchanged apart (rings.around p a low low_a h) refl low h

  toward_b : (p : ℕ) → p < 131072 → slice_index labels p ≡ slice_index labels b → LeadsTo after p b
  toward_b p low h =
      to_a labels next after b a rings (exchanged_back exchanged) (λ e. apart (sym e)) (rings.around p b low low_b h) refl low h

  a_to_b : LeadsTo after a b
  a_to_b = On (subst (λ (n : ℕ). LeadsTo after n b) (sym exchanged.at_a) (toward_b (slice_index next b) (rings.within b low_b) (rings.along b low_b)))

  b_to_a : LeadsTo after b a
  b_to_a = On (subst (λ (n : ℕ). LeadsTo after n a) (sym exchanged.at_b) (toward_a (slice_index next a) (rings.within a low_a) (rings.along a low_a)))

  of_a_to : (p to : ℕ) → p < 131072 → to < 131072 → slice_index labels p ≡ slice_index labels a
      → (slice_index labels to ≡ slice_index labels a) ⊎ (slice_index labels to ≡ slice_index labels b) → LeadsTo after p to
  of_a_to p to low less h g =
      elim g [
        | inl x ↦ leads_over (toward_a p low h) (leads_over a_to_b (from_b labels next after a b rings exchanged apart to low_a less x))
        | inr y ↦ leads_over (toward_a p low h) (from_b labels next after b a rings (exchanged_back exchanged) (λ e. apart (sym e)) to low_b less y)
      ]

  of_b_to : (p to : ℕ) → p < 131072 → to < 131072 → slice_index labels p ≡ slice_index labels b
      → (slice_index labels to ≡ slice_index labels a) ⊎ (slice_index labels to ≡ slice_index labels b) → LeadsTo after p to
  of_b_to p to low less h g = leads_over (toward_b p low h) (leads_over b_to_a (of_a_to a to low_a less refl g))

  of_another : (p to : ℕ) → p < 131072 → to < 131072 → (slice_index labels p ≡ slice_index labels a → ⊥)
      → (slice_index labels p ≡ slice_index labels b → ⊥) → slice_index labels p ≡ slice_index labels to → LeadsTo after p to
  of_another p to low less x y e = still labels next after a b rings exchanged apart (rings.around p to low less e) low x y

  leads_alike : (p to : ℕ) → p < 131072 → to < 131072 → slice_index labels p ≡ slice_index labels to → LeadsTo after p to
  leads_alike p to low less e =
      elim (cases_eq (slice_index labels p) (slice_index labels a)) [
        | inl x ↦ of_a_to p to low less x (inl (sym e ∙ x))
        | inr not_a ↦ elim (cases_eq (slice_index labels p) (slice_index labels b)) [
          | inl y ↦ of_b_to p to low less y (inr (sym e ∙ y))
          | inr not_b ↦ of_another p to low less not_a not_b e
        ]
      ]

  becomes : (p : ℕ) → p < 131072 → slice_index new p ≡ relabelled (slice_index labels b) (slice_index labels a) (slice_index labels p)
  becomes p low = moved.each p (omega (arith, rings.labelled))

  both_alike : (p q : ℕ) → slice_index labels p ≡ slice_index labels a → slice_index labels q ≡ slice_index labels b
      → relabelled (slice_index labels b) (slice_index labels a) (slice_index labels p)
      ≡ relabelled (slice_index labels b) (slice_index labels a) (slice_index labels q)
  both_alike p q h g = grind (arith, nat_tests)

  joined_around : (p to : ℕ) → p < 131072 → to < 131072 → slice_index new p ≡ slice_index new to → LeadsTo after p to
  joined_around p to low less e =
      let same = sym (becomes p low) ∙ e ∙ becomes to less in
      elim (same_relabelled (slice_index labels b) (slice_index labels a) (slice_index labels p) (slice_index labels to) same) [
        | inl equal ↦ leads_alike p to low less equal
        | inr either ↦ elim either [
          | inl (x, y) ↦ of_b_to p to low less x (inl y)
          | inr (x, y) ↦ of_a_to p to low less x (inr y)
        ]
      ]

  joined_within : (p : ℕ) → p < 131072 → slice_index after p < 131072
  joined_within p low =
      elim (cases_eq p a) [
        | inl e ↦ let at = ap (slice_index after) e ∙ exchanged.at_a in omega (arith, at, rings.within b low_b)
        | inr not_a ↦ elim (cases_eq p b) [
          | inl e ↦ let at = ap (slice_index after) e ∙ exchanged.at_b in omega (arith, at, rings.within a low_a)
          | inr not_b ↦ omega (arith, exchanged.others p not_a not_b, rings.within p low)
        ]
      ]

  was_along : (p q r : ℕ) → q < 131072 → r < 131072 → slice_index after p ≡ q
      → relabelled (slice_index labels b) (slice_index labels a) (slice_index labels q)
      ≡ relabelled (slice_index labels b) (slice_index labels a) (slice_index labels r)
      → slice_index new (slice_index after p) ≡ slice_index new r
  was_along p q r low less e same = ap (slice_index new) e ∙ becomes q low ∙ same ∙ sym (becomes r less)

  joined_along : (p : ℕ) → p < 131072 → slice_index new (slice_index after p) ≡ slice_index new p
  joined_along p low =
      elim (cases_eq p a) [
        | inl e ↦ was_along p (slice_index next b) p (rings.within b low_b) low (ap (slice_index after) e ∙ exchanged.at_a)
            (sym (both_alike p (slice_index next b) (ap (slice_index labels) e) (rings.along b low_b)))
        | inr not_a ↦ elim (cases_eq p b) [
          | inl e ↦ was_along p (slice_index next a) p (rings.within a low_a) low (ap (slice_index after) e ∙ exchanged.at_b)
              (both_alike (slice_index next a) p (rings.along a low_a) (ap (slice_index labels) e))
          | inr not_b ↦ was_along p (slice_index next p) p (rings.within p low) low (exchanged.others p not_a not_b)
              (ap (relabelled (slice_index labels b) (slice_index labels a)) (rings.along p low))
        ]
      ]

  joined_named : (p : ℕ) → p < 131072 → slice_index new p < 131072
  joined_named p low =
      let is = becomes p low in
      let of_a = rings.named a low_a in
      let of_p = rings.named p low in
      grind (arith, nat_tests)

  pub rings_joined : AreRings new after
  rings_joined = record {
    labelled = moved.count ∙ rings.labelled;
    linked = linked ∙ rings.linked;
    named = joined_named;
    within = joined_within;
    along = joined_along;
    around = joined_around;
  }
