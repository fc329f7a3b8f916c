-- The bytes of a copy, wherever they lie.
use Rattle.std.specs.Prelude.{ℕ, ◌≤◌, List, take}
use Rattle.wire_base.specs.declared.copied.Room.{Room}
use Rattle.wire_base.specs.declared.copied.Room.TheVariants.{Few, Many}
use Rattle.wire_base.specs.declared.copied.TheConstants.{FEW}

abbrev pub bytes_in : Room → List ℕ
bytes_in (Few len bytes) = take len bytes
bytes_in (Many bytes) = bytes.items

-- no more are counted than there is room for
abbrev pub IsWithin : Room → Type 0
IsWithin (Few len bytes) = len ≤ FEW
IsWithin (Many bytes) = Unit {0}
