-- The two sides of a line.
use Rattle.std.specs.Prelude.{ℕ, List, codes}
use Rattle.wire_base.specs.declared.side.Side.{Side}
use Rattle.wire_base.specs.declared.side.Side.TheVariants.{A, B}

-- the side at the other end
abbrev pub other_side : Side → Side
other_side A = B
other_side B = A

-- the letter that names a side
abbrev pub side_letter : Side → List ℕ
side_letter A = codes "a"
side_letter B = codes "b"
