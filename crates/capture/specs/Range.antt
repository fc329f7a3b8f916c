-- Which captures and formats there are: nodes in their ranges, records that have lines, and in which formats.
use Rattle.std.specs.Prelude.{◌≡◌, ℕ, ◌/◌, ◌%◌, ◌≤◌, Bool, true, false, if◌then◌else◌, IsTrue, List, [], ◌∷◌, length}
use Rattle.std.specs.List.{AllByRecursion}
use Rattle.capture.specs.declared.limit.TheConstants.{MAX_MARK, MAX_RECORDS}
use Rattle.capture_record.specs.declared.event.Event.{Event}
use Rattle.capture_record.specs.declared.event.Event.TheVariants.{Start, Halt, Open, Accept, Reject, In, Up, Close}
use Rattle.capture_record.specs.declared.event.Event.TheVariants.{Boot, Abort, Composed, Interrupt, Interrupted}
use Rattle.capture_record.specs.declared.fate.Fate.{Fate}
use Rattle.capture_record.specs.declared.fate.Fate.TheVariants.{NotKept, Kept, Dropped}
use Rattle.capture_record.specs.declared.record.Record.{Record}
use Rattle.capture_record.specs.declared.record.Record.TheVariants.{Sent, Received, Noise, User}
use Rattle.capture_record.specs.Range.{IsRecord}
use Rattle.capture.specs.declared.hint.HintForm.{HintForm}
use Rattle.capture.specs.declared.hint.HintForm.TheVariants.{Number, Distance, Wide, Part}
use Rattle.capture.specs.declared.format.Format.{Format}
use Rattle.capture.specs.declared.format.Format.TheVariants.{One, Two, Three}
use Rattle.capture.specs.Text.{capture_text, format_of, part_text}

-- the address of a node: area 1 to 63, node 1 to 1,023
pub record IsNode (address : ℕ) : Type 0 where
  pub least_area : 1 ≤ address / 1024
  pub most_area : address / 1024 ≤ 63
  pub least_node : 1 ≤ address % 1024

-- a mark is one more than some hint, or 0
abbrev pub FormFits : HintForm → Type 0
FormFits Number = Unit {0}
FormFits (Distance mark) = mark ≤ MAX_MARK
FormFits Wide = Unit {0}
FormFits Part = Unit {0}

-- ---- the records of a format

-- each format has a line for such an event
abbrev pub event_in_each : Event → Bool
event_in_each Start = true
event_in_each Halt = true
event_in_each (Open link) = true
event_in_each (Accept partner link) = true
event_in_each (Reject partner link) = true
event_in_each (In link bytes) = true
event_in_each (Up link bytes) = true
event_in_each (Close link) = true
event_in_each Boot = false
event_in_each (Abort link) = false
event_in_each (Composed bytes) = false
event_in_each (Interrupt link bytes) = false
event_in_each (Interrupted link bytes) = false

-- each has one for a receipt whose packet this became of
abbrev pub fate_in_each : Fate → Bool
fate_in_each NotKept = true
fate_in_each Kept = true
fate_in_each Dropped = false

-- each has one for such a record
abbrev pub in_each_format : Record → Bool
in_each_format (Sent bytes) = true
in_each_format (Received hint fate bytes) = fate_in_each fate
in_each_format (Noise bytes) = true
in_each_format (User event) = event_in_each event

-- this format has one for such a record: format 3 for any
abbrev pub IsInFormat : Format → Record → Type 0
IsInFormat One r = IsTrue (in_each_format r)
IsInFormat Two r = IsTrue (in_each_format r)
IsInFormat Three r = Unit {0}

-- the same of the format that has such hints
abbrev pub IsInForm : HintForm → Record → Type 0
IsInForm form r = IsInFormat (format_of form) r

-- the format that these records are written in where hints are numbers: 1 where it has a line for each, else 3
abbrev pub format_for : List Record → Format
format_for [] = One
format_for (r ∷ rs) = if in_each_format r then format_for rs else Three

-- ---- captures

-- a head, and records that a text may hold
pub record IsCapture (own peer : ℕ) (records : List Record) : Type 0 where
  pub own_fits : IsNode own
  pub peer_fits : IsNode peer
  pub each : AllByRecursion IsRecord records
  pub few : length records ≤ MAX_RECORDS

-- these bytes are the text of this head and these records, in this format, which has a line for each
pub record IsTextIn (format : Format) (own peer : ℕ) (records : List Record) (bytes : List ℕ) : Type 0 where
  pub fits : IsCapture own peer records
  pub lines : AllByRecursion (IsInFormat format) records
  pub spelled : bytes ≡ capture_text format own peer records

-- they are, in one of the formats
pub record IsText (own peer : ℕ) (records : List Record) (bytes : List ℕ) : Type 0 where
  pub format : Format
  pub is_text : IsTextIn format own peer records bytes

-- these bytes are the text of this head and these records, which are a part of a run
pub record IsPartText (own peer : ℕ) (records : List Record) (bytes : List ℕ) : Type 0 where
  pub fits : IsCapture own peer records
  pub spelled : bytes ≡ part_text own peer records
