-- A whole header that is held, and what is found when more bytes come.
use Rattle.std.proofs.Common.{◌≡◌, ℕ, ◌+◌, ◌-◌, ◌<◌, ◌≤◌, ◌⊎◌, inl, inr, List, [], ◌∷◌, ◌++◌, length, refl, sym, ap, ◌∙◌, arith}
use Rattle.std.proofs.lemmas.Bool.{cases_lt}
use Rattle.std.proofs.lemmas.List.{length-append}
use Rattle.framer.specs.declared.kind.Kind.{Kind}
use Rattle.framer.specs.declared.front.Front.{Front}
use Rattle.framer.specs.declared.front.Front.TheVariants.{Between, Stray, Whole, Cut}
use Rattle.framer.specs.Framing.{Framing, UnitAt, front, framing, behind_strays, only_left, unit_at, unit_len, units_at}
use Rattle.framer.specs.Given.{IsUnitFound, NoneFound}
use Rattle.framer.proofs.CutUnits.{Begins-append}
use Rattle.framer.proofs.Framings.{framing-between, framing-cut, framing-stray, framing-whole}
use Rattle.framer.proofs.Fronts.{Begins, IsCut, begins_cut, begins_whole, cut_parts, front_nil}
use Rattle.framer.proofs.Passing.{ends_len}
use Rattle.framer.proofs.Places.{at-cut, at-whole, left_within}

-- what is left is cut at its front
held_cut : (bytes : List ℕ) → framing bytes ≡ only_left bytes → front bytes ≡ Cut
held_cut [] e = front_nil
held_cut (byte ∷ bytes) e = by_front (front (byte ∷ bytes)) refl
  where
    longer : (f : Framing) → framing (byte ∷ bytes) ≡ f → f.left ≡ (framing bytes).left → ⊥
    longer f at same =
        let all = ap (λ (g : Framing). length g.left) (sym at ∙ e) in
        let left = ap length same in
        let within = left_within bytes in
        omega arith

    some_unit : (len : ℕ) → front (byte ∷ bytes) ≡ Whole len → ⊥
    some_unit len at =
        let units = ap (λ (g : Framing). length g.units) (sym (framing-whole (byte ∷ bytes) len at) ∙ e) in
        omega arith

    by_front : (f : Front) → front (byte ∷ bytes) ≡ f → front (byte ∷ bytes) ≡ Cut
    by_front Between at = absurd (longer _ (framing-between byte bytes at) refl)
    by_front Stray at = absurd (longer _ (framing-stray byte bytes at) refl)
    by_front (Whole len) at = absurd (some_unit len at)
    by_front Cut at = at

-- With more bytes the unit that it begins is cut, or whole.
header_on : (held more : List ℕ) → framing held ≡ only_left held → 8 ≤ length held →
    (front (held ++ more) ≡ Cut) ⊎ ((len : ℕ) × (front (held ++ more) ≡ Whole len))
header_on held more left long = by_len (cases_lt (length (held ++ more)) (unit_len c.kind (held ++ more)))
  where
    c : IsCut held
    c = cut_parts held (held_cut held left) long

    begins : Begins c.kind (held ++ more)
    begins = Begins-append c.kind held more c.begins

    by_len : (length (held ++ more) < unit_len c.kind (held ++ more)) ⊎ (unit_len c.kind (held ++ more) ≤ length (held ++ more)) →
        (front (held ++ more) ≡ Cut) ⊎ ((len : ℕ) × (front (held ++ more) ≡ Whole len))
    by_len (inl less) = inl (begins_cut c.kind (held ++ more) begins less)
    by_len (inr whole) = inr (unit_len c.kind (held ++ more), begins_whole c.kind (held ++ more) begins whole)

abbrev first_place : List UnitAt → ℕ
first_place [] = 0
first_place (u ∷ us) = u.place

-- So the unit that is found then begins with the bytes that are held.
pub header_found : (held more : List ℕ) (kind : Kind) (strays : ℕ) (unit rest : List ℕ) → framing held ≡ only_left held → 8 ≤ length held →
    IsUnitFound (held ++ more) kind strays unit rest → length (held ++ more) ≡ length unit + length rest
header_found held more kind strays unit rest left long found = at (header_on held more left long)
  where
    n : ℕ
    n = 0 + (length (held ++ more) - length (unit ++ rest))

    places : units_at 0 (held ++ more) ≡ unit_at n unit ∷ units_at (n + length unit) rest
    places = found.passed.places 0 ∙ found.places n

    at : (front (held ++ more) ≡ Cut) ⊎ ((len : ℕ) × (front (held ++ more) ≡ Whole len)) → length (held ++ more) ≡ length unit + length rest
    at (inl cut) = let none = ap length (sym (at-cut 0 (held ++ more) cut) ∙ places) in absurd (omega arith)
    at (inr whole) =
        let first : 0 ≡ 0 + (length (held ++ more) - length (unit ++ rest)) =
        ap first_place (sym (at-whole 0 (held ++ more) whole.0 whole.1) ∙ places) in
        let ends = ends_len (held ++ more) (unit ++ rest) found.passed.ends in
        omega (arith, length-append unit rest)

-- Where no unit is found, all is held.
pub header_kept : (held more : List ℕ) (strays : ℕ) (now : List ℕ) → framing held ≡ only_left held → 8 ≤ length held →
    NoneFound (held ++ more) strays now → now ≡ held ++ more
header_kept held more strays now left long found = at (header_on held more left long)
  where
    framed : framing (held ++ more) ≡ behind_strays strays (only_left now)
    framed = found.passed.framed ∙ ap (behind_strays strays) found.left

    at : (front (held ++ more) ≡ Cut) ⊎ ((len : ℕ) × (front (held ++ more) ≡ Whole len)) → now ≡ held ++ more
    at (inl cut) = ap (λ (f : Framing). f.left) (sym framed ∙ framing-cut (held ++ more) cut)
    at (inr whole) =
        let units = ap (λ (g : Framing). length g.units) (sym (framing-whole (held ++ more) whole.0 whole.1) ∙ framed) in
        absurd (omega arith)
