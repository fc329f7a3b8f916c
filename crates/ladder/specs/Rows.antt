-- Which records a ladder keeps, each in a row of its own.
use Rattle.std.specs.Prelude.{ℕ, ◌*◌, ◌==◌, ◌&&◌, Bool, true, false, nat_le, if◌then◌else◌, List, [], ◌∷◌, ◌++◌, length, map}
use Rattle.circular_buffer.specs.Buffer.{keep_last}
use Rattle.wire_base.specs.declared.side.Side.{Side}
use Rattle.ladder.specs.declared.told.Told.{Told}
use Rattle.ladder.specs.declared.row.Row.{Row}
use Rattle.ladder.specs.declared.rows.Keep.{Keep}
use Rattle.ladder.specs.declared.rows.Keep.TheVariants.{Last, First, From}
use Rattle.ladder.specs.declared.rows.Phase.{Phase}
use Rattle.ladder.specs.declared.rows.Phase.TheVariants.{Before, Open, Closed}
use Rattle.ladder.specs.declared.rows.TheConstants.{RECORDS}
use Rattle.ladder.specs.Row.{alone, is_side, of_refused, passed}

-- the rows of the records that are kept, and how many rows are drawn at most
pub record Kept : Type 0 where
  pub keep : Keep
  pub phase : Phase
  pub rows : List Row
  pub room : ℕ

-- how many records are kept at most
abbrev pub records : Kept → ℕ
records kept = RECORDS * kept.room

-- no record yet
abbrev pub first_phase : Keep → Phase
first_phase Last = Open
first_phase First = Open
first_phase (From side line) = Before

abbrev pub no_rows : Keep → ℕ → Kept
no_rows keep room = record { keep = keep; phase = first_phase keep; rows = []; room = room }

-- other rows
abbrev pub with_rows : Kept → List Row → Kept
with_rows kept rows = record kept { rows = rows }

-- the records that are shown: none before the one that begins them
abbrev pub shown_by : Phase → List Row → List Row
shown_by Before rows = []
shown_by Open rows = rows
shown_by Closed rows = rows

abbrev pub shown : Kept → List Row
shown kept = shown_by kept.phase kept.rows

-- ---- which are kept of these, the last of which has this record

-- the record is on this line of this side's capture, so that it begins the rows
abbrev pub phase_at : Keep → Told → Phase
phase_at Last told = Before
phase_at First told = Before
phase_at (From side line) told = if is_side told.side side && (told.line == line) then Open else Before

-- before the record that begins them the last row alone is kept
abbrev pub beginning : Kept → List Row → Told → Kept
beginning kept next told = record kept { phase = phase_at kept.keep told; rows = keep_last 1 next }

-- where the first rows are kept, none is kept once there is no room for one
abbrev pub filling : Kept → List Row → Kept
filling kept next = if nat_le (length next) (records kept) then with_rows kept next else record kept { phase = Closed }

-- where the last rows are kept, the first goes where there is no room
abbrev pub opened : Keep → Kept → List Row → Kept
opened Last kept next = with_rows kept (keep_last (records kept) next)
opened First kept next = filling kept next
opened (From side line) kept next = filling kept next

abbrev pub going_on_by : Phase → Kept → List Row → Told → Kept
going_on_by Before kept next told = beginning kept next told
going_on_by Open kept next told = opened kept.keep kept next
going_on_by Closed kept next told = kept

abbrev pub going_on : Kept → List Row → Told → Kept
going_on kept next told = going_on_by kept.phase kept next told

-- ---- what happens

-- a record was made, or refused
abbrev pub with_made : Kept → Told → Kept
with_made kept told = going_on kept (kept.rows ++ alone told false ∷ []) told

abbrev pub with_refused : Kept → Told → (changed : Bool) → Kept
with_refused kept told changed = going_on kept (kept.rows ++ of_refused told changed ∷ []) told

-- this side received the unit with the hint's number
abbrev pub passed_in : Kept → Side → ℕ → Kept
passed_in kept receiver hint = with_rows kept (map (passed receiver hint) kept.rows)
