-- The rows of a ladder.
use Rattle.std.specs.Prelude.{ℕ, ◌-◌, ◌==◌, ◌&&◌, Bool, true, false, Option, Some, None, nat_lt, if◌then◌else◌}
use Rattle.std.specs.Prelude.{List, [], ◌∷◌, ◌++◌, length, take}
use Rattle.circular_buffer.specs.Buffer.{last_item}
use Rattle.wire_base.specs.declared.side.Side.{Side}
use Rattle.wire_base.specs.declared.side.Side.TheVariants.{A, B}
use Rattle.ladder.specs.declared.told.Told.{Told}
use Rattle.ladder.specs.declared.told.What.{What}
use Rattle.ladder.specs.declared.told.What.TheVariants as what
use Rattle.ladder.specs.declared.row.Row.{Row}
use Rattle.ladder.specs.declared.row.Fate.{Fate}
use Rattle.ladder.specs.declared.row.Fate.TheVariants as fate
use Rattle.ladder.specs.declared.row.Receipt.{Receipt}

-- a row of one record
abbrev pub alone : Told → Bool → Row
alone told refused = record { told = told; fate = fate.Open; refused = refused; changed = false }

-- a row of a record that was refused, perhaps for bytes that are not those of its unit and show no damage
abbrev pub of_refused : Told → (changed : Bool) → Row
of_refused told changed = record { told = told; fate = fate.Open; refused = true; changed = changed }

-- the one side sends to the other
abbrev pub faces : Side → Side → Bool
faces A B = true
faces B A = true
faces A A = false
faces B B = false

-- both are one side
abbrev pub is_side : Side → Side → Bool
is_side A A = true
is_side B B = true
is_side A B = false
is_side B A = false

-- the unit with the hint's number was sent to this side, and came in another row
abbrev pub sends_by : What → Fate → Bool → ℕ → Bool
sends_by (what.Sent unit said again) fate.Came facing hint = facing && (unit == hint)
sends_by _ _ facing hint = false

abbrev pub sends : Row → Side → ℕ → Bool
sends row receiver hint = sends_by row.told.what row.fate (faces row.told.side receiver) hint

-- the row with a receipt in it
abbrev pub with_receipt : Row → Receipt → Row
with_receipt row receipt = record row { fate = fate.Here receipt }

-- The next record is in the row of a sending where it is the receipt of that unit: where its hint is the unit's number.
abbrev pub joined_by : Row → Told → What → Option Row
joined_by row next (what.Came hint became said sent) =
    if sends row next.side hint then Some (with_receipt row (record { line = next.line; became = became; said = said; state = next.state })) else None
joined_by row next _ = None

abbrev pub joined : Row → Told → Option Row
joined row next = joined_by row next next.what

-- a refused record has a row of its own
abbrev pub with_next : Row → Row → Option Row
with_next row next = if next.refused then None else joined row next.told

-- ---- what becomes of a unit where the one with the hint's number comes

abbrev pub open_after : ℕ → ℕ → Fate
open_after hint unit = if unit == hint then fate.Came else (if nat_lt unit hint then fate.Lost else fate.Open)

abbrev pub after : ℕ → ℕ → Fate → Fate
after hint unit fate.Open = open_after hint unit
after hint unit (fate.Here receipt) = fate.Here receipt
after hint unit fate.Came = fate.Came
after hint unit fate.Lost = fate.Lost

abbrev pub fate_after : What → Bool → ℕ → Fate → Fate
fate_after (what.Sent unit said again) facing hint before = if facing then after hint unit before else before
fate_after _ facing hint before = before

abbrev pub passed : Side → ℕ → Row → Row
passed receiver hint row = record row { fate = fate_after row.told.what (faces row.told.side receiver) hint row.fate }

-- ---- the rows of records that come one below the other

abbrev pub last_joined : Option Row → Row → Option Row
last_joined None next = None
last_joined (Some row) next = with_next row next

-- another last row
abbrev pub with_last : List Row → Row → List Row
with_last rows row = take (length rows - 1) rows ++ row ∷ []

abbrev pub with_row : List Row → Row → Option Row → List Row
with_row rows next None = rows ++ next ∷ []
with_row rows next (Some row) = with_last rows row

-- one more record: in the last row, where it is the receipt of the unit that this row sent, or else in a row of its own
abbrev pub with_record : List Row → Row → List Row
with_record rows next = with_row rows next (last_joined (last_item rows) next)

-- and all of these, one after the other
abbrev pub joined_all : List Row → List Row → List Row
joined_all rows [] = rows
joined_all rows (next ∷ more) = joined_all (with_record rows next) more
