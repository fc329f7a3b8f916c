-- Lines that begin with the letter of a side.
use Rattle.std.specs.Prelude.{ℕ, List, codes, Option, Some, None}
use Rattle.wire_base.specs.declared.side.Side.{Side}
use Rattle.wire_base.specs.declared.side.Side.TheVariants.{A, B}
use Rattle.capture.specs.Reading.{after, or_else}

-- the side, and what follows its letter and a space
unfoldable pub side_at : List ℕ → Option (Side × List ℕ)
side_at line = or_else (after (codes "a ") line) (λ rest. Some (A, rest)) (or_else (after (codes "b ") line) (λ rest. Some (B, rest)) None)
