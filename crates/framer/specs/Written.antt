-- Units as they are written on a line.
use Rattle.std.specs.Prelude.{◌≡◌, ℕ, ◌≤◌, IsTrue, Some, List, [], ◌∷◌, ◌++◌, length, take, slice_index}
use Rattle.std.specs.List.{AllByRecursion}
use Rattle.wire_base.specs.BlockCheck.{HasGoodCheck}
use Rattle.ddcmp_msg.specs.Message.{IsBytes}
use Rattle.framer.specs.declared.kind.Kind.{Kind}
use Rattle.framer.specs.Framing.{is_between, kind_of, unit_len}

-- Bytes that are framed as one unit: a byte that starts one, a header with a good check, and as many bytes as it says.
pub record IsFrame (unit : List ℕ) : Type 0 where
  pub bytes : IsBytes unit
  pub kind : Kind
  pub start : kind_of (slice_index unit 0) ≡ Some kind
  pub long : 8 ≤ length unit
  pub check : HasGoodCheck (take 8 unit)
  pub whole : length unit ≡ unit_len kind unit

-- SYN and pads, any number of them
abbrev pub IsGap : List ℕ → Type 0
IsGap bytes = AllByRecursion (λ byte. IsTrue (is_between byte)) bytes

-- a unit, and the bytes between the unit before it and this one
pub record Placed : Type 0 where
  pub gap : List ℕ
  pub unit : List ℕ

pub record IsPlaced (placed : Placed) : Type 0 where
  pub gap : IsGap placed.gap
  pub frame : IsFrame placed.unit

-- units one after another, and the bytes after the last one
abbrev pub line_of : List Placed → List ℕ → List ℕ
line_of [] last = last
line_of (placed ∷ more) last = placed.gap ++ (placed.unit ++ line_of more last)

-- these units
abbrev pub units_of : List Placed → List (List ℕ)
units_of [] = []
units_of (placed ∷ more) = placed.unit ∷ units_of more
