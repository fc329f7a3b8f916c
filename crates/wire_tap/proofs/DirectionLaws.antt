-- The units of one direction, as they are found and told, with the lines on which they begin.
use Rattle.std.proofs.Common.{◌≡◌, ◌⊎◌, inl, inr, ℕ, ◌+◌, ◌-◌, ◌<◌, ◌≤◌, Bool, Some, List, [], ◌∷◌, ◌++◌, length, map, refl, sym, ap, subst}
use Rattle.std.proofs.Common.{◌∙◌, arith, append_assoc, append-nil, length-append}
use Rattle.std.proofs.lemmas.Bool.{cases_lt}
use Rattle.std.proofs.lemmas.List.{nil_from_length}
use Rattle.wire_base.specs.declared.side.Side.{Side}
use Rattle.framer.specs.declared.kind.Kind.{Kind}
use Rattle.framer.specs.Framing.{Framing, UnitAt, framing, only_left, unit_at, units_at}
use Rattle.framer.specs.Given.{IsUnitFound, NoneFound}
use Rattle.framer.proofs.Headers.{header_found, header_kept}
use Rattle.framer.proofs.Passing.{ends_len}
use Rattle.framer.proofs.Framings.{framing-nil}
use Rattle.framer.proofs.Places.{at-units, left_within}
use Rattle.wire_tap.specs.Units.{UnitPassed, message_of, unit_passed, with_lines}
use Rattle.wire_tap.specs.declared.direction.Direction.{Direction}
use Rattle.wire_tap.specs.declared.told.Told.{Told}
use Rattle.wire_tap.specs.declared.begun.Begun.{Begun}
use Rattle.wire_tap.specs.inner.Accused.{FindsAll, FindsNone, FindsOne, IsOnLine, IsTold, KeepsLines}
use Rattle.wire_tap.proofs.PassedLaws.{lines-first}

-- ---- a unit that is found

map_nil : (us : List UnitAt) → map (λ (u : UnitAt). u.unit) us ≡ [] → us ≡ []
map_nil [] e = refl
map_nil (u ∷ us) e = let long = ap length e in absurd (omega arith)

none_at : (place : ℕ) (bytes : List ℕ) → framing bytes ≡ only_left bytes → units_at place bytes ≡ []
none_at place bytes e = map_nil (units_at place bytes) (at-units place bytes ∙ ap (λ (f : Framing). f.units) e)

module _ (held piece : List ℕ) (kind : Kind) (strays : ℕ) (unit rest : List ℕ) (found : IsUnitFound (held ++ piece) kind strays unit rest)
    (left : framing held ≡ only_left held) where
  some_bytes : 1 ≤ length unit + length rest
  some_bytes = at (cases_lt (length unit + length rest) 1)
    where
      at : (length unit + length rest < 1) ⊎ (1 ≤ length unit + length rest) → 1 ≤ length unit + length rest
      at (inl none) =
          let empty : unit ++ rest ≡ [] = nil_from_length (unit ++ rest) (omega (arith, length-append unit rest)) in
          let units = ap length (sym (none_at 0 [] framing-nil) ∙ ap (units_at 0) (sym empty) ∙ found.places 0) in
          absurd (omega arith)
      at (inr some) = some

  -- its place among the bytes that are held and the piece
  pub place_within : length held + length piece - (length unit + length rest) < length held + length piece
  place_within =
      let some = some_bytes in
      let ends = ends_len (held ++ piece) (unit ++ rest) found.passed.ends in
      omega (arith, length-append held piece, length-append unit rest)

  -- the line of that place is kept
  pub place_known : (length held + length piece - (length unit + length rest) < 8) ⊎
      (length held ≤ length held + length piece - (length unit + length rest))
  place_known = at (cases_lt (length held) 8) (cases_lt (length held + length piece - (length unit + length rest)) 8)
    where
      n : ℕ
      n = length held + length piece - (length unit + length rest)

      at : (length held < 8) ⊎ (8 ≤ length held) → (n < 8) ⊎ (8 ≤ n) → (n < 8) ⊎ (length held ≤ n)
      at short (inl near) = inl near
      at (inl short) (inr far) = inr (omega arith)
      at (inr long) (inr far) =
          let all = header_found held piece kind strays unit rest left long found in
          absurd (omega (arith, length-append held piece))

  module _ (side : Side) (lines : ℕ → ℕ) (place line : ℕ)
      (line_is : line ≡ lines (place + (length held + length piece - (length unit + length rest)))) where
    places_are : units_at place (held ++ piece) ≡ unit_at (place + (length (held ++ piece) - length (unit ++ rest))) unit
        ∷ units_at (place + (length (held ++ piece) - length (unit ++ rest)) + length unit) rest
    places_are = found.passed.places place ∙ found.places (place + (length (held ++ piece) - length (unit ++ rest)))

    same_place : place + (length (held ++ piece) - length (unit ++ rest)) ≡ place + (length held + length piece - (length unit + length rest))
    same_place = omega (arith, length-append held piece, length-append unit rest)

    after_place : place + (length (held ++ piece) - length (unit ++ rest)) + length unit ≡ place + (length (held ++ piece) - length rest)
    after_place =
        let ends = ends_len (held ++ piece) (unit ++ rest) found.passed.ends in
        omega (arith, length-append held piece, length-append unit rest)

    units_are : with_lines side lines (units_at place (held ++ piece)) ≡ message_of (Some kind) (unit_passed side unit line)
        ++ with_lines side lines (units_at (place + (length (held ++ piece) - length rest)) rest)
    units_are =
        ap (with_lines side lines) places_are
        ∙ lines-first side lines kind (place + (length (held ++ piece) - length (unit ++ rest))) unit
        (units_at (place + (length (held ++ piece) - length (unit ++ rest)) + length unit) rest) found.kind_is
        ∙ ap (λ (n : ℕ). message_of (Some kind) (unit_passed side unit (lines n)) ++ with_lines side lines
        (units_at (place + (length (held ++ piece) - length (unit ++ rest)) + length unit) rest)) same_place
        ∙ ap (λ (n : ℕ). message_of (Some kind) (unit_passed side unit n) ++ with_lines side lines
        (units_at (place + (length (held ++ piece) - length (unit ++ rest)) + length unit) rest)) (sym line_is)
        ∙ ap (λ (n : ℕ). message_of (Some kind) (unit_passed side unit line) ++ with_lines side lines (units_at n rest)) after_place

    pub finds_one : (line_alone : Bool) (a b : ℕ) (passed : List UnitPassed) (told : Told) →
        IsTold line_alone a b (passed ++ message_of (Some kind) (unit_passed side unit line)) told →
        FindsOne line_alone a b side passed lines place (held ++ piece) rest told
    finds_one line_alone a b passed told tells = record {
      found = message_of (Some kind) (unit_passed side unit line);
      tells = tells;
      are = units_are;
      left = ap (λ (f : Framing). f.left) (found.passed.framed) ∙ ap (λ (f : Framing). f.left) found.framed;
    }

-- ---- no unit is found

module _ (held piece : List ℕ) (strays : ℕ) (now : List ℕ) (found : NoneFound (held ++ piece) strays now) (left : framing held ≡ only_left held) where
  pub now_within : length now ≤ length held + length piece
  now_within = let ends = ends_len (held ++ piece) now found.passed.ends in omega (arith, length-append held piece)

  pub now_all : (length held < 8) ⊎ (length now ≡ length held + length piece)
  now_all = at (cases_lt (length held) 8)
    where
      at : (length held < 8) ⊎ (8 ≤ length held) → (length held < 8) ⊎ (length now ≡ length held + length piece)
      at (inl short) = inl short
      at (inr long) = inr (ap length (header_kept held piece strays now left long found) ∙ length-append held piece)

  pub finds_none : (line_alone : Bool) (a b : ℕ) (side : Side) (passed : List UnitPassed) (lines : ℕ → ℕ) (place : ℕ) (new : Direction)
      (told : Told) →
      IsTold line_alone a b passed told → new.framer.held ≡ now →
      KeepsLines lines (place + (length held + length piece - length now)) (length now) new.begun →
      FindsNone line_alone a b side passed lines place (held ++ piece) new told
  finds_none line_alone a b side passed lines place new told tells same keeps = record {
    tells = tells;
    are = ap (with_lines side lines) (found.passed.places place ∙ none_at (place + (length (held ++ piece) - length now)) now found.left);
    left = ap (λ (f : Framing). f.left) (found.passed.framed) ∙ ap (λ (f : Framing). f.left) found.left ∙ sym same;
    keeps = λ i few near.
        let long : length new.framer.held ≡ length now = ap length same in
        keeps i (omega arith) near ∙ ap lines (at_same i long);
  }
    where
      at_same : (i : ℕ) → length new.framer.held ≡ length now →
          place + (length held + length piece - length now) + i ≡ place + (length (held ++ piece) - length new.framer.held) + i
      at_same i long = omega (arith, length-append held piece)

-- ---- unit after unit

-- some units of the bytes were found and told, and these are to come: those that are held, and a rest of the piece
pub record IsUnderWay (line_alone : Bool) (a b : ℕ) (side : Side) (passed : List UnitPassed) (lines : ℕ → ℕ) (place line : ℕ)
    (bytes held rest : List ℕ)
    (begun : Begun) (told : Told) : Type 0 where
  pub found : List UnitPassed
  pub tells : IsTold line_alone a b (passed ++ found) told
  pub are : with_lines side lines (units_at place bytes)
      ≡ found ++ with_lines side lines (units_at (place + (length bytes - length (held ++ rest))) (held ++ rest))
  pub left : (framing bytes).left ≡ (framing (held ++ rest)).left
  pub keeps : KeepsLines lines (place + (length bytes - length (held ++ rest))) (length held) begun
  pub on_line : IsOnLine lines (place + (length bytes - length (held ++ rest))) (length held) (length rest) line
  pub within : length (held ++ rest) ≤ length bytes

module _ (line_alone : Bool) (a b : ℕ) (side : Side) (passed : List UnitPassed) (lines : ℕ → ℕ) (place line : ℕ) where
  pub begins : (held piece : List ℕ) (begun : Begun) (told : Told) → IsTold line_alone a b passed told → KeepsLines lines place (length held) begun →
      IsOnLine lines place (length held) (length piece) line →
      IsUnderWay line_alone a b side passed lines place line (held ++ piece) held piece begun told
  begins held piece begun told tells keeps on_line = record {
    found = [];
    tells = subst (λ (us : List UnitPassed). IsTold line_alone a b us told) (sym (append-nil passed)) tells;
    are = ap (λ (n : ℕ). with_lines side lines (units_at n (held ++ piece))) same;
    left = refl;
    keeps = subst (λ (n : ℕ). KeepsLines lines n (length held) begun) same keeps;
    on_line = subst (λ (n : ℕ). IsOnLine lines n (length held) (length piece) line) same on_line;
    within = omega arith;
  }
    where
      same : place ≡ place + (length (held ++ piece) - length (held ++ piece))
      same = omega arith

  module _ (bytes held rest : List ℕ) (begun : Begun) (told : Told)
      (way : IsUnderWay line_alone a b side passed lines place line bytes held rest begun told)
    where
      abbrev at : ℕ
      at = place + (length bytes - length (held ++ rest))

      -- one unit more, after which nothing is held
      pub goes_on : (behind now : List ℕ) (begun' : Begun) (later : Told) →
          FindsOne line_alone a b side (passed ++ way.found) lines at (held ++ rest) behind later →
          length behind < length (held ++ rest) → length behind ≤ length rest → now ≡ [] →
          IsUnderWay line_alone a b side passed lines place line bytes now behind begun' later
      goes_on behind now begun' later one less of_piece none =
          subst (λ (h : List ℕ). IsUnderWay line_alone a b side passed lines place line bytes h behind begun' later) (sym none) empty
        where
          on : at + (length (held ++ rest) - length behind) ≡ place + (length bytes - length behind)
          on = let within = way.within in omega arith

          line_on : IsOnLine lines (place + (length bytes - length behind)) 0 (length behind) line
          line_on i least few =
              let within = way.within in
              way.on_line (length (held ++ rest) - length behind + i) (omega (arith, length-append held rest))
              (omega (arith, length-append held rest))
              ∙ ap lines (there i)
            where
              there : (i : ℕ) → at + (length (held ++ rest) - length behind + i) ≡ place + (length bytes - length behind) + i
              there i = let e = on in omega arith

          empty : IsUnderWay line_alone a b side passed lines place line bytes [] behind begun' later
          empty = record {
            found = way.found ++ one.found;
            tells = subst (λ (us : List UnitPassed). IsTold line_alone a b us later) (append_assoc passed way.found one.found) one.tells;
            are = way.are ∙ ap (λ (us : List UnitPassed). way.found ++ us) (one.are
                ∙ ap (λ (n : ℕ). one.found ++ with_lines side lines (units_at n behind)) on)
                ∙ sym (append_assoc way.found one.found (with_lines side lines (units_at (place + (length bytes - length behind)) behind)));
            left = way.left ∙ one.left;
            keeps = λ i few near. absurd (omega arith);
            on_line = line_on;
            within = let within = way.within in omega arith;
          }

      -- there is no more
      pub finds_all : (new : Direction) (later : Told) → FindsNone line_alone a b side (passed ++ way.found) lines at (held ++ rest) new later →
          new.side ≡ side →
          FindsAll line_alone a b side passed lines place bytes new later
      finds_all new later none same = record {
        tells = subst (λ (us : List UnitPassed). IsTold line_alone a b (passed ++ us) later) (sym (
            way.are ∙ ap (λ (us : List UnitPassed). way.found ++ us) none.are ∙ append-nil way.found)) none.tells;
        left = way.left ∙ none.left;
        keeps = λ i few near. none.keeps i few near ∙ ap lines (there i);
        side_is = same;
      }
        where
          held_within : length new.framer.held ≤ length (held ++ rest)
          held_within = let e = ap length none.left in let within = left_within (held ++ rest) in omega arith

          there : (i : ℕ) → at + (length (held ++ rest) - length new.framer.held) + i ≡ place + (length bytes - length new.framer.held) + i
          there i = let within = way.within in let few = held_within in omega arith
