-- What a contract sees of a reader of a capture, and what one call of it gives.
use Rattle.std.specs.Prelude.{◌≡◌, ℕ, ◌+◌, ◌-◌, ◌<◌, ◌≤◌, Bool, true, false, List, Option, Some, None, Result, Ok, Err, IfSome}
use Rattle.std.specs.Io.KnownBytes.{Consumes, IsAtEnd}
use Rattle.capture.specs.declared.limit.TheConstants.{MAX_RECORDS}
use Rattle.capture.specs.declared.fault.Departure.{Departure}
use Rattle.capture.specs.declared.fault.CaptureFault.{CaptureFault}
use Rattle.capture.specs.declared.fault.CaptureFault.TheVariants.{Departs, Read, OutOfMemory, Failed}
use Rattle.capture.specs.declared.phase.Phase.{Phase}
use Rattle.capture.specs.declared.phase.Phase.TheVariants as phases
use Rattle.capture_record.specs.declared.record.Record.{Record}
use Rattle.capture.specs.declared.hint.HintForm.{HintForm}
use Rattle.capture.specs.declared.hint.HintForm.TheVariants as forms
use Rattle.capture.specs.Text.{head_line, part_head_line, record_line, first_form, form_after, format_of}
use Rattle.capture_record.specs.Range.{IsRecord}
use Rattle.capture.specs.Range.{IsInForm, IsNode}
use Rattle.capture.specs.Departing.{HeadDeparts, RecordDeparts}
use Rattle.capture.specs.Lines.{LineState, to_come}

-- the head, the form of the next hint, the count of records so far, whether more may come, the bytes read ahead, and the line and the bytes of
-- the record that `advance` read last
pub record CaptureState : Type 0 where
  pub own : ℕ
  pub peer : ℕ
  pub form : HintForm
  pub records : ℕ
  pub phase : Phase
  pub unread : List ℕ
  pub line : List ℕ
  pub bytes : List ℕ

-- A fault names the line at hand, by its number, and says how the first line of what was to come departs.
abbrev pub FaultShows : (Departure → List ℕ → Type 0) → ℕ → Option (List ℕ) → CaptureFault → Type 0
FaultShows departs number before (Departs kind line) = (line ≡ number) × IfSome before (departs kind)
FaultShows departs number before Read = Unit {0}
FaultShows departs number before OutOfMemory = Unit {0}
FaultShows departs number before Failed = ⊥

-- this, where a failed read is answered
abbrev pub WhereReadFails : (failed_read : Bool) → Type 0 → Type 0
WhereReadFails true told = told
WhereReadFails false told = Unit {0}

-- What `open` gives, where these bytes were to come, and these are.
abbrev pub Opens : Option (List ℕ) → Option (List ℕ) → Result CaptureState CaptureFault → Type 0
Opens before after (Ok state) =
    IsNode state.own × IsNode state.peer × (state.records ≡ 0) × (state.phase ≡ phases.Reading)
    × Consumes before (to_come state.unread after) (head_line (format_of state.form) state.own state.peer)
    × (state.form ≡ first_form (format_of state.form))
Opens before after (Err fault) = FaultShows HeadDeparts 1 before fault

-- What is given where the head was that of a part of a run.
abbrev pub OpensPart : Option (List ℕ) → Option (List ℕ) → CaptureState → Type 0
OpensPart before after state =
    IsNode state.own × IsNode state.peer × (state.records ≡ 0) × (state.phase ≡ phases.Reading)
    × Consumes before (to_come state.unread after) (part_head_line state.own state.peer) × (state.form ≡ forms.Part)

-- so many lines were taken, and the next hint has this form
pub record Turn : Type 0 where
  pub form : HintForm
  pub taken : ℕ

-- The lines taken and the bytes to come, before and after one record's turn.
abbrev pub TakesRecord : Turn → ℕ → Option (List ℕ) → Option (List ℕ) → Result (Option Record) CaptureFault → Type 0
TakesRecord turn taken before after (Ok (Some r)) =
    IsRecord r × (turn.taken ≤ MAX_RECORDS) × (taken ≡ turn.taken + 1) × Consumes before after (record_line turn.form r) × IsInForm turn.form r
TakesRecord turn taken before after (Ok None) = IsAtEnd before × (taken ≡ turn.taken)
TakesRecord turn taken before after (Err fault) =
    FaultShows (RecordDeparts turn.form (turn.taken - 1)) (turn.taken + 1) before fault × (taken ≡ turn.taken)

-- What `next` gives while more may come: a record, whose line was the first of what was to come; the end, where
-- nothing was to come; or a fault of the line at hand.
abbrev pub NextGives : CaptureState → CaptureState → Option (List ℕ) → Option (List ℕ) → Result (Option Record) CaptureFault → Type 0
NextGives old new before after (Ok (Some r)) =
    IsRecord r × (old.records < MAX_RECORDS) × (new.records ≡ old.records + 1) × (new.phase ≡ phases.Reading) ×
    Consumes before after (record_line old.form r)
    × (new.form ≡ form_after old.form r) × IsInForm old.form r
NextGives old new before after (Ok None) = IsAtEnd before × (new.records ≡ old.records) × (new.phase ≡ phases.Ended) × (new.form ≡ old.form)
NextGives old new before after (Err fault) =
    FaultShows (RecordDeparts old.form old.records) (old.records + 2) before fault × (new.records ≡ old.records) × (new.phase ≡ phases.Failed)
