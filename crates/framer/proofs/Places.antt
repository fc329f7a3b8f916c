-- Where the units of some bytes are, along what stands at their front.
use Rattle.std.proofs.Common.{◌≡◌, ℕ, zero, suc, ◌+◌, ◌-◌, ◌≤◌, List, [], ◌∷◌, ◌++◌, length, take, drop, map, refl, sym, ap, ◌∙◌, arith}
use Rattle.std.proofs.lemmas.List.{length-drop, take-append-le, drop-append-le}
use Rattle.framer.specs.declared.front.Front.{Front}
use Rattle.framer.specs.declared.front.Front.TheVariants.{Between, Stray, Whole, Cut}
use Rattle.framer.specs.Framing.{Framing, UnitAt, front, framing, at_front, only_left, unit_at, units_at, units_behind}
use Rattle.framer.proofs.Fronts.{front_more, whole_len}
use Rattle.framer.proofs.Framings.{IsKept, along, framing-nil, framing-between, framing-stray, framing-whole, framing-cut}

-- ---- one step

at_step : (place byte : ℕ) (bytes : List ℕ) (f : Front) → front (byte ∷ bytes) ≡ f →
    units_at place (byte ∷ bytes) ≡ at_front f place (byte ∷ bytes) (units_behind (place + 1) bytes)
unfolding units_at
at_step place byte bytes f e = rw e refl

same_at : (m n : ℕ) (bytes : List ℕ) → m ≡ n → units_at m bytes ≡ units_at n bytes
same_at m n bytes e = ap (λ (k : ℕ). units_at k bytes) e

no_more : (place : ℕ) → place ≡ place + 0
no_more place = omega arith

one_more : (place len : ℕ) → place + 1 + len ≡ place + suc len
one_more place len = omega arith

at-nil : (place : ℕ) → units_at place [] ≡ []
unfolding units_at
at-nil place = refl

behind_none : (place : ℕ) (bytes : List ℕ) → units_behind place bytes zero ≡ units_at place bytes
unfolding units_at
behind_none place bytes = refl

behind_at : (place : ℕ) (bytes : List ℕ) (len : ℕ) → units_behind place bytes len ≡ units_at (place + len) (drop len bytes)
behind_at place [] zero = sym (at-nil (place + zero))
behind_at place [] (suc len) = sym (at-nil (place + suc len))
behind_at place (byte ∷ bytes) zero = behind_none place (byte ∷ bytes) ∙ same_at place (place + 0) (byte ∷ bytes) (no_more place)
behind_at place (byte ∷ bytes) (suc len) =
    behind_at (place + 1) bytes len ∙ same_at (place + 1 + len) (place + suc len) (drop len bytes) (one_more place len)

pub at-between : (place byte : ℕ) (bytes : List ℕ) → front (byte ∷ bytes) ≡ Between → units_at place (byte ∷ bytes) ≡ units_at (place + 1) bytes
at-between place byte bytes e =
    at_step place byte bytes Between e ∙ behind_at (place + 1) bytes 0 ∙ same_at (place + 1 + 0) (place + 1) bytes (sym (no_more (place + 1)))

pub at-stray : (place byte : ℕ) (bytes : List ℕ) → front (byte ∷ bytes) ≡ Stray → units_at place (byte ∷ bytes) ≡ units_at (place + 1) bytes
at-stray place byte bytes e =
    at_step place byte bytes Stray e ∙ behind_at (place + 1) bytes 0 ∙ same_at (place + 1 + 0) (place + 1) bytes (sym (no_more (place + 1)))

pub at-cut : (place : ℕ) (bytes : List ℕ) → front bytes ≡ Cut → units_at place bytes ≡ []
at-cut place [] e = at-nil place
at-cut place (byte ∷ bytes) e = at_step place byte bytes Cut e

from_next : (len byte : ℕ) (bytes : List ℕ) → 1 ≤ len → drop (len - 1) bytes ≡ drop len (byte ∷ bytes)
from_next zero byte bytes h = absurd (omega arith)
from_next (suc len) byte bytes h = let e : suc len - 1 ≡ len = omega arith in rw e refl

pub at-whole : (place : ℕ) (bytes : List ℕ) (len : ℕ) → front bytes ≡ Whole len →
    units_at place bytes ≡ unit_at place (take len bytes) ∷ units_at (place + len) (drop len bytes)
at-whole place [] len e = let w = whole_len [] len e in absurd (omega arith)
at-whole place (byte ∷ bytes) len e =
    let w = whole_len (byte ∷ bytes) len e in
    let on : place + 1 + (len - 1) ≡ place + len = omega arith in
    at_step place byte bytes (Whole len) e
    ∙ ap (λ (later : List UnitAt). unit_at place (take len (byte ∷ bytes)) ∷ later)
    (behind_at (place + 1) bytes (len - 1) ∙ same_at (place + 1 + (len - 1)) (place + len) (drop (len - 1) bytes) on
    ∙ ap (units_at (place + len)) (from_next len byte bytes (omega arith)))

-- ---- they are the units

abbrev AreUnits : List ℕ → Type 0
AreUnits bytes = (place : ℕ) → map (λ (u : UnitAt). u.unit) (units_at place bytes) ≡ (framing bytes).units

abbrev units_in : List UnitAt → List (List ℕ)
units_in us = map (λ (u : UnitAt). u.unit) us

pub at-units : (place : ℕ) (bytes : List ℕ) → map (λ (u : UnitAt). u.unit) (units_at place bytes) ≡ (framing bytes).units
at-units place bytes = along AreUnits kept at_none bytes place
  where
    at_none : AreUnits []
    at_none place = ap units_in (at-nil place) ∙ sym (ap (λ (f : Framing). f.units) framing-nil)

    kept : IsKept AreUnits
    kept = record {
      between = λ byte bytes e p place.
          ap units_in (at-between place byte bytes e) ∙ p (place + 1) ∙ sym (ap (λ (f : Framing). f.units) (framing-between byte bytes e));
      stray = λ byte bytes e p place.
          ap units_in (at-stray place byte bytes e) ∙ p (place + 1) ∙ sym (ap (λ (f : Framing). f.units) (framing-stray byte bytes e));
      whole = λ bytes len e p place.
          ap units_in (at-whole place bytes len e) ∙ ap (λ (us : List (List ℕ)). take len bytes ∷ us) (p (place + len))
          ∙ sym (ap (λ (f : Framing). f.units) (framing-whole bytes len e));
      cut = λ bytes e place. ap units_in (at-cut place bytes e) ∙ sym (ap (λ (f : Framing). f.units) (framing-cut bytes e));
    }

-- ---- pieces

abbrev left_of : List ℕ → List ℕ
left_of bytes = (framing bytes).left

abbrev LeavesWithin : List ℕ → Type 0
LeavesWithin bytes = length (left_of bytes) ≤ length bytes

left_is : (bytes : List ℕ) (f : Framing) → framing bytes ≡ f → length (left_of bytes) ≡ length f.left
left_is bytes f e = ap (λ (g : Framing). length g.left) e

pub left_within : (bytes : List ℕ) → length (framing bytes).left ≤ length bytes
left_within bytes = along LeavesWithin kept (let e = left_is [] (only_left []) framing-nil in omega arith) bytes
  where
    kept : IsKept LeavesWithin
    kept = record {
      between = λ byte bytes e p. let same = left_is (byte ∷ bytes) _ (framing-between byte bytes e) in omega arith;
      stray = λ byte bytes e p. let same = left_is (byte ∷ bytes) _ (framing-stray byte bytes e) in omega arith;
      whole = λ bytes len e p.
          let same = left_is bytes _ (framing-whole bytes len e) in
          omega (arith, length-drop len bytes);
      cut = λ bytes e. let same = left_is bytes _ (framing-cut bytes e) in omega arith;
    }

-- the units of all bytes are those of the first ones, and then those of what they left with the others
abbrev on_from : ℕ → List ℕ → List ℕ → List ℕ → List UnitAt
on_from place bytes left more = units_at (place + (length bytes - length left)) (left ++ more)

abbrev Joins : List ℕ → List ℕ → Type 0
Joins more bytes = (place : ℕ) → units_at place (bytes ++ more) ≡ units_at place bytes ++ on_from place bytes (left_of bytes) more

not_cut : (f : Front) (bytes : List ℕ) → front bytes ≡ f → (f ≡ Cut → ⊥) → front bytes ≡ Cut → ⊥
not_cut f bytes e other c = other (sym e ∙ c)

-- what comes after some bytes of which the framing goes on, by so many that they are longer
goes_on : (place n : ℕ) (bytes behind more : List ℕ) (f : Framing) → framing bytes ≡ f → f.left ≡ left_of behind →
    length bytes ≡ n + length behind → on_from (place + n) behind (left_of behind) more ≡ on_from place bytes (left_of bytes) more
goes_on place n bytes behind more f e same long =
    let left : left_of bytes ≡ left_of behind = ap (λ (g : Framing). g.left) e ∙ same in
    let within = left_within behind in
    let at : place + n + (length behind - length (left_of behind)) ≡ place + (length bytes - length (left_of behind)) = omega arith in
    rw left (same_at _ _ (left_of behind ++ more) at)

pub at-append : (place : ℕ) (bytes more : List ℕ) →
    units_at place (bytes ++ more) ≡ units_at place bytes
    ++ units_at (place + (length bytes - length (framing bytes).left)) ((framing bytes).left ++ more)
at-append place bytes more = along (Joins more) kept at_none bytes place
  where
    at_none : Joins more []
    at_none place =
        let at : place ≡ place + (0 - 0) = omega arith in
        let left : left_of [] ≡ [] = ap (λ (f : Framing). f.left) framing-nil in
        rw (at-nil place, left) (same_at place (place + (0 - 0)) more at)

    kept : IsKept (Joins more)
    kept = record {
      between = λ byte bytes e p place.
          let f = front_more (byte ∷ bytes) more (not_cut Between (byte ∷ bytes) e (λ c. absurd cc)) in
          at-between place byte (bytes ++ more) (f ∙ e) ∙ p (place + 1)
          ∙ ap (λ (us : List UnitAt). units_at (place + 1) bytes ++ us)
          (goes_on place 1 (byte ∷ bytes) bytes more _ (framing-between byte bytes e) refl (omega arith))
          ∙ sym (ap (λ (us : List UnitAt). us ++ on_from place (byte ∷ bytes) (left_of (byte ∷ bytes)) more) (at-between place byte bytes e));
      stray = λ byte bytes e p place.
          let f = front_more (byte ∷ bytes) more (not_cut Stray (byte ∷ bytes) e (λ c. absurd cc)) in
          at-stray place byte (bytes ++ more) (f ∙ e) ∙ p (place + 1)
          ∙ ap (λ (us : List UnitAt). units_at (place + 1) bytes ++ us)
          (goes_on place 1 (byte ∷ bytes) bytes more _ (framing-stray byte bytes e) refl (omega arith))
          ∙ sym (ap (λ (us : List UnitAt). us ++ on_from place (byte ∷ bytes) (left_of (byte ∷ bytes)) more) (at-stray place byte bytes e));
      whole = λ bytes len e p place.
          let f = front_more bytes more (not_cut (Whole len) bytes e (λ c. absurd cc)) in
          let w = whole_len bytes len e in
          at-whole place (bytes ++ more) len (f ∙ e)
          ∙ ap (λ (u : List ℕ). unit_at place u ∷ units_at (place + len) (drop len (bytes ++ more))) (take-append-le len bytes more w.1)
          ∙ ap (λ (r : List ℕ). unit_at place (take len bytes) ∷ units_at (place + len) r) (drop-append-le len bytes more w.1)
          ∙ ap (λ (us : List UnitAt). unit_at place (take len bytes) ∷ us) (p (place + len))
          ∙ ap (λ (us : List UnitAt). unit_at place (take len bytes) ∷ (units_at (place + len) (drop len bytes) ++ us))
          (goes_on place len bytes (drop len bytes) more _ (framing-whole bytes len e) refl (omega (arith, length-drop len bytes)))
          ∙ sym (ap (λ (us : List UnitAt). us ++ on_from place bytes (left_of bytes) more) (at-whole place bytes len e));
      cut = λ bytes e place.
          let left : left_of bytes ≡ bytes = ap (λ (f : Framing). f.left) (framing-cut bytes e) in
          let at : place ≡ place + (length bytes - length bytes) = omega arith in
          rw (at-cut place bytes e, left) (same_at place (place + (length bytes - length bytes)) (bytes ++ more) at);
    }
