-- One row more is counted.
use Rattle.std.proofs.Common.{◌≡◌, ℕ, ◌+◌, Bool, true, false, cond, Option, Some, None, List, [], ◌∷◌, ◌++◌, refl, sym, ap, subst}
use Rattle.std.proofs.Common.{◌∙◌, arith, min, eqb}
use Rattle.std.specs.Prelude.{slice_get, slice_index, slice_set}
use Rattle.std.specs.Option.{option_to_list}
use Rattle.std.proofs.lemmas.Bool.{eqb-false, eqb-true}
use Rattle.std.proofs.lemmas.List.{append-nil}
use Rattle.std.proofs.lemmas.Option.{get_or_from_slice_get}
use Rattle.dna_links.proofs.Runs.Sides.{set_other, set_same}
use Rattle.coverage.specs.declared.row.Row.{Row}
use Rattle.coverage.specs.Counts.{AreCounts, MOST, times}
use Rattle.coverage.specs.Row.{place}
use Rattle.coverage.specs.inner.Met.{counted, one_more}

-- how much one row more adds
abbrev here : Bool → ℕ
here true = 1
here false = 0

times_by : (b : Bool) (n m : ℕ) (c : Bool) → n ≡ m + here c → cond b (1 + n) n ≡ cond b (1 + m) m + here c
times_by true n m c is = omega arith
times_by false n m c is = is

times_pushed : (row : Row) (rows : List Row) (met : Row) → times row (rows ++ met ∷ []) ≡ times row rows + here (eqb (place met) (place row))
times_pushed row [] met = by_test (eqb (place met) (place row))
  where
    by_test : (b : Bool) → cond b (1 + 0) 0 ≡ 0 + here b
    by_test true = refl
    by_test false = refl
times_pushed row (first ∷ rows) met =
    times_by (eqb (place first) (place row)) (times row (rows ++ met ∷ [])) (times row rows) (eqb (place met) (place row)) (times_pushed row rows met)

-- the count at this place, where one more is counted at that one
module _ (counts : List ℕ) (this that count : ℕ) (at : slice_get counts this ≡ Some (min count MOST)) where
  abbrev CountsThen : ℕ → Type 0
  CountsThen later = slice_get (slice_set counts that (min (slice_index counts that + 1) MOST)) this ≡ Some (min later MOST)

  same : this ≡ that → CountsThen (count + 1)
  same is =
      let there = subst (λ (p : ℕ). slice_get counts p ≡ Some (min count MOST)) is at in
      let value : slice_index counts that ≡ min count MOST = get_or_from_slice_get counts that (min count MOST) 0 there in
      let more : min (slice_index counts that + 1) MOST ≡ min (count + 1) MOST = omega (arith, value) in
      subst (λ (p : ℕ). slice_get (slice_set counts that (min (slice_index counts that + 1) MOST)) p ≡ Some (min (count + 1) MOST)) (sym is)
      (set_same counts that (min count MOST) (min (slice_index counts that + 1) MOST) there ∙ ap (λ (n : ℕ). Some n) more)

  other : (this ≡ that → ⊥) → CountsThen (count + 0)
  other is =
      let none : min count MOST ≡ min (count + 0) MOST = omega arith in
      set_other counts that this (min (slice_index counts that + 1) MOST) is ∙ at ∙ ap (λ (n : ℕ). Some n) none

  counted_then : (b : Bool) → eqb that this ≡ b → CountsThen (count + here b)
  counted_then true is = same (sym (eqb-true that this is))
  counted_then false is = other (λ e. eqb-false that this is (sym e))

pub row_counted : (counts : List ℕ) (rows : List Row) → AreCounts counts rows → (met : Row) → AreCounts (one_more counts met) (rows ++ met ∷ [])
row_counted counts rows are met row =
    subst (λ (n : ℕ). slice_get (one_more counts met) (place row) ≡ Some (min n MOST)) (sym (times_pushed row rows met))
    (counted_then counts (place row) (place met) (times row rows) (are row) (eqb (place met) (place row)) refl)

-- none, one or two rows
pub option_counted : (counts : List ℕ) (rows : List Row) (row : Option Row) → AreCounts counts rows →
    AreCounts (counted counts row) (rows ++ option_to_list row)
option_counted counts rows None are = subst (AreCounts counts) (sym (append-nil rows)) are
option_counted counts rows (Some row) are = row_counted counts rows are row
