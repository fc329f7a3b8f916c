-- The rows that are drawn of the records that are kept.
use Rattle.std.specs.Prelude.{◌≡◌, ℕ, Bool, List, [], take}
use Rattle.circular_buffer.specs.Buffer.{keep_last}
use Rattle.ladder.specs.declared.row.Row.{Row}
use Rattle.ladder.specs.declared.rows.Keep.{Keep}
use Rattle.ladder.specs.declared.rows.Keep.TheVariants.{Last, First, From}
use Rattle.ladder.specs.Order.{IsOrder}
use Rattle.ladder.specs.Row.{joined_all}
use Rattle.ladder.specs.Rows.{Kept, shown}

-- the rows, and whether no record is left
pub record DrawnView : Type 0 where
  pub rows : List Row
  pub ended : Bool

-- at most so many of them, the last ones or the first
abbrev pub cut : Keep → ℕ → List Row → List Row
cut Last room rows = keep_last room rows
cut First room rows = take room rows
cut (From side line) room rows = take room rows

-- the records that are kept, in an order, each receipt in the row of its unit where it is the next record
abbrev pub IsDrawn : Kept → Bool → DrawnView → Type 0
IsDrawn kept ended drawn =
    (order : List Row) × IsOrder (shown kept) order × (drawn.rows ≡ cut kept.keep kept.room (joined_all [] order)) × (drawn.ended ≡ ended)
