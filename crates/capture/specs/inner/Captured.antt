-- The fields of a reader of a capture.
use Rattle.std.specs.Prelude.{◌≡◌, ℕ, ◌-◌, ◌+◌, ◌≤◌, [], length, take}
use Rattle.capture.specs.declared.reader.CaptureReader.TheInside.{Inside}
use Rattle.capture_record.specs.declared.limit.TheConstants.{MAX_MESSAGE}
use Rattle.capture.specs.declared.limit.TheConstants.{MAX_RECORDS}
use Rattle.capture.specs.Range.{FormFits}
use Rattle.capture.specs.declared.hint.HintForm.{HintForm}
use Rattle.capture.specs.declared.phase.Phase.TheVariants.{Reading}
use Rattle.capture.specs.Lines.{LineState}
use Rattle.capture.specs.Reader.{CaptureState}

abbrev pub capture_state : Inside → CaptureState
capture_state r = record {
  own = r.own;
  peer = r.peer;
  form = r.wording.form;
  records = r.lines.taken - 1;
  phase = r.phase;
  unread =
      r.lines.unread;
  line = r.lines.last;
  bytes = take r.len r.room.items;
}

-- the reader of the records behind a head
abbrev pub state_at : (own peer : ℕ) → HintForm → LineState → CaptureState
state_at own peer form lines =
    record { own = own; peer = peer; form = form; records = 0; phase = Reading; unread = lines.unread; line = lines.last; bytes = [] }

-- the head's line is one of those taken, the bytes are within the room, and the mark is within its range
pub record IsCounted (r : Inside) : Type 0 where
  pub head : 1 ≤ r.lines.taken
  pub few : r.lines.taken ≤ MAX_RECORDS + 1
  pub room : length r.room.items ≡ MAX_MESSAGE
  pub within : r.len ≤ MAX_MESSAGE
  pub form : FormFits r.wording.form
