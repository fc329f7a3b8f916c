-- A text as far as it was read.
use Rattle.std.specs.Prelude.{◌≡◌, ℕ, ◌+◌, List, [], ◌∷◌, ◌++◌, length, Option, Some, IfSome}
use Rattle.std.specs.List.{AllByRecursion}
use Rattle.std.specs.Io.KnownBytes.{Consumes}
use Rattle.capture.specs.declared.fault.Departure.{Departure}
use Rattle.capture_record.specs.declared.record.Record.{Record}
use Rattle.capture.specs.declared.hint.HintForm.{HintForm}
use Rattle.capture.specs.declared.hint.HintForm.TheVariants.{Part}
use Rattle.capture.specs.Text.{capture_text, part_text, first_form, form_after, form_behind, format_of}
use Rattle.capture.specs.Range.{IsCapture, IsInForm}
use Rattle.capture.specs.Departing.{HeadDeparts, RecordDeparts}

-- What follows the records that were read: these bytes are to come, where the reader tells them; or the text has ended.
pub data Behind : Type 0 where
  ToCome : (bytes : Option (List ℕ)) → Behind
  TheEnd : Behind

abbrev pub coming : Behind → Option (List ℕ)
coming (ToCome bytes) = bytes
coming TheEnd = Some []

-- A head, the records that were read after it, and what follows these: with the form of its first hint
pub record ReadSoFar : Type 0 where
  pub form : HintForm
  pub own : ℕ
  pub peer : ℕ
  pub records : List Record
  pub behind : Behind

abbrev pub so_far : HintForm → ℕ → ℕ → List Record → Behind → ReadSoFar
so_far form own peer records behind = record { form = form; own = own; peer = peer; records = records; behind = behind }

-- The same with one record more, after which this is to come.
abbrev pub read_on : ReadSoFar → Record → Option (List ℕ) → ReadSoFar
read_on read r rest = so_far (form_after read.form r) read.own read.peer (read.records ++ r ∷ []) (ToCome rest)

-- The text begins so, and goes on with what is to come, if anything is.
pub record IsReadSoFar (text : Option (List ℕ)) (read : ReadSoFar) : Type 0 where
  pub fits : IsCapture read.own read.peer read.records
  pub lines : AllByRecursion (IsInForm read.form) read.records
  pub begins : Consumes text (coming read.behind) (capture_text (format_of read.form) read.own read.peer read.records)
  pub form_is : read.form ≡ form_behind (first_form (format_of read.form)) read.records

-- The text of a part of a run begins so, and goes on with what is to come, if anything is.
pub record IsPartSoFar (text : Option (List ℕ)) (read : ReadSoFar) : Type 0 where
  pub fits : IsCapture read.own read.peer read.records
  pub begins : Consumes text (coming read.behind) (part_text read.own read.peer read.records)
  pub form_is : read.form ≡ Part

-- all records of a capture that begins with these, and has no more where its text has ended
abbrev pub GoesOnBy : Behind → List Record → List Record → Type 0
GoesOnBy (ToCome bytes) read all = (rest : List Record) × (all ≡ read ++ rest)
GoesOnBy TheEnd read all = all ≡ read

abbrev pub GoesOn : ReadSoFar → List Record → Type 0
GoesOn read all = GoesOnBy read.behind read.records all

-- The line after what was read is this one, counted from the head's, which is 1; and it departs in this way.
pub record DepartsBehind (read : ReadSoFar) (kind : Departure) (line : ℕ) : Type 0 where
  pub departs : IfSome (coming read.behind) (RecordDeparts read.form (length read.records) kind)
  pub line_is : line ≡ length read.records + 2

-- The head's line departs in this way.
pub record HeadDepartsAt (text : Option (List ℕ)) (kind : Departure) (line : ℕ) : Type 0 where
  pub departs : IfSome text (HeadDeparts kind)
  pub line_is : line ≡ 1
