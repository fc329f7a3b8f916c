-- What a contract sees of the units on a line.
use Rattle.std.specs.Prelude.{ℕ, Option, Some, None, List, [], ◌∷◌}

abbrev pub first_of : List (List ℕ) → Option (List ℕ)
first_of [] = None
first_of (unit ∷ later) = Some unit
