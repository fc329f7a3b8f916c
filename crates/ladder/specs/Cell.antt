-- What is at both sides of a row, and how its arrow ends.
use Rattle.std.specs.Prelude.{Bool, true, false, Option, Some, None, if◌then◌else◌}
use Rattle.capture_record.specs.declared.fate.Fate.{Fate as Became}
use Rattle.capture_record.specs.declared.fate.Fate.TheVariants as became
use Rattle.wire_base.specs.declared.side.Side.{Side}
use Rattle.ladder.specs.declared.cell.Cell.{Cell}
use Rattle.ladder.specs.declared.cell.End.{End}
use Rattle.ladder.specs.declared.cell.End.TheVariants.{Here, Elsewhere, Never}
use Rattle.ladder.specs.declared.note.Note.{Note}
use Rattle.ladder.specs.declared.note.Note.TheVariants as note
use Rattle.ladder.specs.declared.row.Fate.{Fate}
use Rattle.ladder.specs.declared.row.Fate.TheVariants as fate
use Rattle.ladder.specs.declared.row.Row.{Row}
use Rattle.ladder.specs.declared.said.Said.{Said}
use Rattle.ladder.specs.declared.said.Said.TheVariants as said
use Rattle.ladder.specs.declared.told.What.{What}
use Rattle.ladder.specs.declared.told.What.TheVariants as what
use Rattle.ladder.specs.Row.{is_side}

-- ---- the cells at both sides

-- data that were not kept are told to be; of all else there is nothing to keep
abbrev pub receipt_note : Became → Said → Note
receipt_note became.Kept said = note.Kept
receipt_note became.Dropped said = note.Dropped
receipt_note became.NotKept (said.Data num resp content) = note.NotKept
receipt_note became.NotKept _ = note.Nothing

-- the note of a row's first record
abbrev pub own_note : What → Note
own_note (what.Sent unit said again) = note.Nothing
own_note (what.Came hint became said sent) = receipt_note became said
own_note (what.Noise said) = note.Nothing
own_note (what.Composed content) = note.Composed
own_note (what.User entry bytes) = note.User entry bytes

-- the receipt in the row of its unit
abbrev pub receipt_cell : Fate → Option Cell
receipt_cell (fate.Here receipt) = Some (record { line = receipt.line; note = receipt_note receipt.became receipt.said })
receipt_cell fate.Open = None
receipt_cell fate.Came = None
receipt_cell fate.Lost = None

abbrev pub cell : Row → Side → Option Cell
cell row side =
    if is_side row.told.side side then Some (record { line = row.told.line; note = own_note row.told.what }) else receipt_cell row.fate

-- ---- the end of the arrow

-- no record is left to come after one that was made
abbrev pub open_end : (ended refused : Bool) → End
open_end true false = Never
open_end true true = Elsewhere
open_end false refused = Elsewhere

abbrev pub end_by : Fate → (ended refused : Bool) → End
end_by (fate.Here receipt) ended refused = Here
end_by fate.Came ended refused = Elsewhere
end_by fate.Lost ended refused = Never
end_by fate.Open ended refused = open_end ended refused

abbrev pub end : Row → (ended : Bool) → End
end row ended = end_by row.fate ended row.refused
