-- A walk once around a ring, which gives each place another label
use Rattle.std.proofs.Common.{◌≡◌, ◌⊎◌, ℕ, ◌<◌, List, cond, not, nat_eq, length, set}
use Rattle.std.proofs.Common.{refl, sym, ap, ◌∙◌, subst, inl, inr, arith, length-set, get_or-set_other, get_or-set_same}
use Rattle.std.specs.List.{slice_index, count_by}
use Rattle.std.proofs.lemmas.Bool.{cases_eq}
use Rattle.std.proofs.lemmas.Bool.Decides.{nat_tests}
use Rattle.std.proofs.lemmas.List.Sums.{sum_by-set}
use Rattle.link_groups.specs.inner.Labels.{AreRelabelled, relabelled}
use Rattle.link_groups.specs.inner.Rings.{AreRings, LeadsTo}
use Rattle.link_groups.specs.inner.Rings.LeadsTo.{Here, On}

-- on the way from `start` to `place`: what has another label than before is behind, and leads on to what is behind, or to `place`
pub record IsOnTheWay (old now next : List ℕ) (start place kept : ℕ) : Type 0 where
  pub count : length now ≡ length old
  pub at : place < 131072
  pub same : slice_index old place ≡ slice_index old start
  pub begun : (place ≡ start) ⊎ (slice_index now start ≡ kept)
  pub changed : (p : ℕ) → p < 131072
      → (slice_index now p ≡ slice_index old p) ⊎ ((slice_index old p ≡ slice_index old start) × (slice_index now p ≡ kept))
  pub behind : (p : ℕ) → p < 131072 → slice_index old p ≡ slice_index old start → slice_index now p ≡ kept
      → (slice_index next p ≡ place) ⊎ (slice_index now (slice_index next p) ≡ kept)

pub way_begins : (old next : List ℕ) (start kept : ℕ) → start < 131072 → (slice_index old start ≡ kept → ⊥) → IsOnTheWay old old next start start kept
way_begins old next start kept low differ = record {
  count = refl;
  at = low;
  same = refl;
  begun = inl refl;
  changed = λ p h. inl refl;
  behind = λ p h was is. absurd (differ (sym was ∙ is));
}

counts : (label kept : ℕ) → (label ≡ kept → ⊥) → cond {A = ℕ} (not (nat_eq label kept)) 1 0 ≡ 1
counts label kept differ = grind (arith, nat_tests)

counts_not : (kept : ℕ) → cond {A = ℕ} (not (nat_eq kept kept)) 1 0 ≡ 0
counts_not kept = grind (arith, nat_tests)

-- one step
module _ (old now next : List ℕ) (start place kept : ℕ) (rings : AreRings old next) (way : IsOnTheWay old now next start place kept) where
  now_within : place < length now
  now_within = omega (arith, way.count, rings.labelled, way.at)

  stays_kept : (p : ℕ) → slice_index now p ≡ kept → slice_index (set now place kept) p ≡ kept
  stays_kept p h =
      elim (cases_eq p place) [
        | inl e ↦ subst (λ (n : ℕ). slice_index (set now place kept) n ≡ kept) (sym e) (get_or-set_same now place kept 0 now_within)
        | inr ne ↦ get_or-set_other now place p kept 0 ne ∙ h
      ]

  here_kept : slice_index (set now place kept) place ≡ kept
  here_kept = get_or-set_same now place kept 0 now_within

  pub way_goes_on : IsOnTheWay old (set now place kept) next start (slice_index next place) kept
  way_goes_on = record {
    count = length-set now place kept ∙ way.count;
    at = rings.within place way.at;
    same = rings.along place way.at ∙ way.same;
    begun = inr (elim way.begun [
      | inl e ↦ subst (λ (n : ℕ). slice_index (set now place kept) n ≡ kept) e here_kept
      | inr h ↦ stays_kept start h
    ]);
    changed = λ p h. elim (cases_eq p place) [
      | inl e ↦ inr (ap (slice_index old) e ∙ way.same, ap (slice_index (set now place kept)) e ∙ here_kept)
      | inr ne ↦ elim (way.changed p h) [
        | inl as_was ↦ inl (get_or-set_other now place p kept 0 ne ∙ as_was)
        | inr both ↦ inr (both.0, stays_kept p both.1)
      ]
    ];
    behind = λ p h was is. elim (cases_eq p place) [
      | inl e ↦ inl (ap (slice_index next) e)
      | inr ne ↦ elim (way.behind p h was (sym (get_or-set_other now place p kept 0 ne) ∙ is)) [
        | inl to_here ↦ inr (ap (slice_index (set now place kept)) to_here ∙ here_kept)
        | inr on ↦ inr (stays_kept (slice_index next p) on)
      ]
    ];
  }

  -- fewer are left
  pub fewer_left : (slice_index now place ≡ kept → ⊥)
      → count_by (λ label. not (nat_eq label kept)) (set now place kept) < count_by (λ label. not (nat_eq label kept)) now
  fewer_left differ =
      let sums = sum_by-set (λ label. cond (not (nat_eq label kept)) 1 0) now place kept 0 now_within in
      omega (arith, sums, counts (slice_index now place) kept differ, counts_not kept)

-- Behind one that has the new label, all have it once the walk comes to one that has it
all_kept : (old now next : List ℕ) (start place kept : ℕ) → AreRings old next → IsOnTheWay old now next start place kept
    → slice_index now place ≡ kept
    → {from to : ℕ} → LeadsTo next from to → from < 131072 → slice_index old from ≡ slice_index old start → slice_index now from ≡ kept
    → slice_index now to ≡ kept
all_kept old now next start place kept rings way over (Here to) low was is = is
all_kept old now next start place kept rings way over (On {from} {to} h) low was is =
    all_kept old now next start place kept rings way over h (rings.within from low) (rings.along from low ∙ was)
    (elim (way.behind from low was is) [ inl e ↦ ap (slice_index now) e ∙ over | inr on ↦ on ])

-- the walk is over where the label is the new one
pub way_ends : (old now next : List ℕ) (start place kept : ℕ) → AreRings old next → start < 131072 → IsOnTheWay old now next start place kept
    → slice_index now place ≡ kept → AreRelabelled (slice_index old start) kept old now
way_ends old now next start place kept rings low way over = record { count = way.count; each = each }
  where
    started : slice_index now start ≡ kept
    started = elim way.begun [ inl e ↦ ap (slice_index now) (sym e) ∙ over | inr h ↦ h ]

    each : (p : ℕ) → p < length old → slice_index now p ≡ relabelled (slice_index old start) kept (slice_index old p)
    each p h =
        let inside : p < 131072 = omega (arith, rings.labelled) in
        elim (cases_eq (slice_index old p) (slice_index old start)) [
          | inl e ↦ let is : slice_index now p ≡ kept =
              all_kept old now next start place kept rings way over (rings.around start p low inside (sym e)) low refl started in
              grind (arith, nat_tests)
          | inr ne ↦ elim (way.changed p inside) [
            | inl as_was ↦ grind (arith, nat_tests)
            | inr both ↦ absurd (ne both.0)
          ]
        ]
