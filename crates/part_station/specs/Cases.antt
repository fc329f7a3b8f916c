-- What a station may be whose capture begins in its midst, and what its records make of that.
use Rattle.std.specs.Prelude.{Bool, true, false, ◌||◌, ◌&&◌, not, if◌then◌else◌, Option, Some, None, Result, Ok, Err, List, [], ◌∷◌}
use Rattle.ddcmp_msg.specs.Message.{MessageValue}
use Rattle.ddcmp_msg.specs.Reading.{ReadingValue, reading, Malformed}
use Rattle.ddcmp_msg.specs.Reading as read
use Rattle.capture_record.specs.Fates.{is_kept}
use Rattle.capture_record.specs.declared.record.Record.{Record}
use Rattle.capture_record.specs.declared.record.Record.TheVariants.{Sent, Received, Noise, User}
use Rattle.capture_record.specs.declared.event.Event.{Event}
use Rattle.capture_record.specs.declared.event.Event.TheVariants as events
use Rattle.dna_links.specs.declared.tag.LinkTag.{LinkTag}
use Rattle.dna_station.specs.declared.tag.Tag.{Tag}
use Rattle.dna_station.specs.declared.state.State.{State}
use Rattle.dna_station.specs.declared.state.State.TheVariants.{Halted, Astrt}
use Rattle.dna_station.specs.declared.state.StationEvent.{StationEvent}
use Rattle.dna_station.specs.declared.state.StationEvent.TheVariants.{Start, Halt}
use Rattle.dna_station.specs.declared.refusal.StationRefusal.{StationRefusal}
use Rattle.dna_station.specs.declared.refusal.StationRefusal.TheVariants.{WrongState, WrongKeep, WrongResponse, WrongUserEvent}
use Rattle.dna_station.specs.declared.refusal.StepRefusal.{StepRefusal}
use Rattle.dna_station.specs.declared.refusal.StepRefusal.TheVariants.{NotAMessage, NotNoise, Station as OfStation}
use Rattle.dna_station.specs.Book.{ArrivalValue, Sound, HeaderBad, DataBad}
use Rattle.dna_station.specs.Line.{damage}
use Rattle.dna_station.specs.PeriodRule.{of_any_period}
use Rattle.dna_station.specs.WireStation.{WireStation, no_numbers, new_wire_station, wire_after_event}
use Rattle.dna_station.specs.WireBook.{wire_sending_refusal, wire_after_sending, wire_arrival_refusal, wire_after_arrival}
use Rattle.dna_node.specs.Accusing.{wrong_response_of}
use Rattle.dna_node.specs.Alone.{unknown_period}
use Rattle.part_station.specs.Open.{Open, first_open, open_sending_refusal, open_after_sending, open_arrival_refusal, open_after_arrival, open_ahead}
use Rattle.part_station.specs.Open.{is_restart}

abbrev pub Known : Type 0
Known = WireStation LinkTag

-- A set of what it may be. Where nothing is left of it, no station makes the records
pub record Cases : Type 0 where
  -- it may be in HALTED, since before the capture or after it was halted in it: all that counts there is that it can be started
  pub halted : Bool
  -- it may be this one, which was in ISTRT when the capture began, or was started since
  pub istrt : Option Known
  -- it may be this one, which was in ASTRT when the capture began
  pub astrt : Option Known
  -- it may be one of these, which was in RUNNING when the capture began
  pub running : Option Open
  -- and one of these, where a RESP may have acknowledged either of two numbers, 256 apart: here the higher one
  pub ahead : Option Open

-- one that was started
abbrev pub in_istrt : Known
in_istrt = wire_after_event new_wire_station Start

-- and met a STRT
abbrev pub in_astrt : Known
in_astrt = record in_istrt { variables = no_numbers Astrt; partner = Some 0 }

-- before any record of the capture
abbrev pub first_cases : Cases
first_cases = record {
  halted = true;
  istrt = Some in_istrt;
  astrt = Some in_astrt;
  running = Some first_open;
  ahead = None;
}

-- ---- what is left of them

abbrev pub is_left : {S : Type 0} → Option S → Bool
is_left None = false
is_left (Some s) = true

abbrev pub is_any : Cases → Bool
is_any c = c.halted || is_left c.istrt || is_left c.astrt || is_left c.running || is_left c.ahead

-- this one unless it is refused
abbrev pub unless : {S : Type 0} → Option StationRefusal → Option S → Option S
unless None after = after
unless (Some refusal) after = None

module _ {S : Type 0} where
  abbrev pub refusal_in : (S → Option StationRefusal) → Option S → Option StationRefusal
  refusal_in refuses None = None
  refusal_in refuses (Some s) = refuses s

abbrev pub or_else : Option StationRefusal → Option StationRefusal → Option StationRefusal
or_else None next = next
or_else (Some refusal) next = Some refusal

abbrev pub or_reason : Option StationRefusal → StationRefusal → StationRefusal
or_reason None next = next
or_reason (Some refusal) next = refusal

-- The reason where none is left: that of one which was in RUNNING before the others
abbrev pub reason_of : (Known → Option StationRefusal) → (Open → Option StationRefusal) → StationRefusal → Cases → StationRefusal
reason_of of_known of_open of_halted c =
    or_reason (or_else (refusal_in of_open c.ahead) (or_else (refusal_in of_open c.running)
    (or_else (refusal_in of_known c.astrt) (refusal_in of_known c.istrt)))) of_halted

abbrev pub if_any : Cases → StationRefusal → Result Cases StationRefusal
if_any after reason = if is_any after then Ok after else Err reason

-- ---- a message is sent

abbrev pub known_sends : MessageValue → Option Known → Option Known
known_sends m None = None
known_sends m (Some w) = unless (wire_sending_refusal w m) (Some (wire_after_sending w m))

abbrev pub open_sends : MessageValue → Option Open → Option Open
open_sends m None = None
open_sends m (Some o) = unless (open_sending_refusal o m) (Some (open_after_sending o m))

abbrev pub after_sending : Cases → MessageValue → Cases
after_sending c m = record {
  halted = false;
  istrt = known_sends m c.istrt;
  astrt = known_sends m c.astrt;
  running = open_sends m c.running;
  ahead = open_sends m c.ahead;
}

abbrev pub sending_reason : Cases → MessageValue → StationRefusal
sending_reason c m = reason_of (λ w. wire_sending_refusal w m) (λ o. open_sending_refusal o m) WrongState c

abbrev pub cases_send : Cases → MessageValue → Result Cases StationRefusal
cases_send c m = if_any (after_sending c m) (sending_reason c m)

-- ---- an arrival

abbrev pub is_refused : {R : Type 0} → Option R → Bool
is_refused None = false
is_refused (Some refusal) = true

-- in RUNNING the RESP of a sound unit is among A to N, else it is the other side's (8)
abbrev pub is_wrong : Known → MessageValue → Bool
is_wrong w m = is_refused (wrong_response_of w.variables m)

abbrev pub wrong_response : Known → ArrivalValue Tag → Bool
wrong_response w (Sound m tag) = is_wrong w m
wrong_response w HeaderBad = false
wrong_response w DataBad = false

abbrev pub known_arrival_refusal : Known → ArrivalValue Tag → (kept : Bool) → Option StationRefusal
known_arrival_refusal w arrival kept =
    if wrong_response w arrival then Some WrongResponse else wire_arrival_refusal of_any_period w arrival kept

abbrev pub known_meets : ArrivalValue Tag → (kept : Bool) → Option Known → Option Known
known_meets arrival kept None = None
known_meets arrival kept (Some w) = unless (known_arrival_refusal w arrival kept) (Some (wire_after_arrival w arrival kept))

-- a STRT leaves none in RUNNING
abbrev pub open_after : Open → ArrivalValue Tag → (kept : Bool) → Option Open
open_after o arrival kept = if is_restart arrival then None else Some (open_after_arrival o arrival kept)

abbrev pub open_meets : ArrivalValue Tag → (kept : Bool) → Option Open → Option Open
open_meets arrival kept None = None
open_meets arrival kept (Some o) = unless (open_arrival_refusal o arrival kept) (open_after o arrival kept)

-- the higher number is acknowledged, where the lower one may be
abbrev pub goes_ahead : ArrivalValue Tag → (kept : Bool) → Option Open → Option Open
goes_ahead arrival kept None = None
goes_ahead arrival kept (Some o) = unless (open_arrival_refusal o arrival kept) (open_ahead o arrival kept)

-- there are no two to choose from a second time
abbrev pub ahead_meets : ArrivalValue Tag → (kept : Bool) → (running ahead : Option Open) → Option Open
ahead_meets arrival kept running None = goes_ahead arrival kept running
ahead_meets arrival kept running (Some o) = open_meets arrival kept (Some o)

-- a STRT halts one in RUNNING
abbrev pub halts : Cases → ArrivalValue Tag → (kept : Bool) → Bool
halts c arrival kept = not kept && (c.halted || (is_restart arrival && (is_left c.running || is_left c.ahead)))

-- one is left; where one goes ahead, another one is left
abbrev pub may_meet : Cases → ArrivalValue Tag → (kept : Bool) → Bool
may_meet c arrival kept =
    halts c arrival kept || is_left (known_meets arrival kept c.istrt) || is_left (known_meets arrival kept c.astrt)
    || is_left (open_meets arrival kept c.running) || is_left (open_meets arrival kept c.ahead)

abbrev pub after_arrival : Cases → ArrivalValue Tag → (kept : Bool) → Cases
after_arrival c arrival kept = record {
  halted = halts c arrival kept;
  istrt = known_meets arrival kept c.istrt;
  astrt = known_meets arrival kept c.astrt;
  running = open_meets arrival kept c.running;
  ahead = ahead_meets arrival kept c.running c.ahead;
}

abbrev pub arrival_reason : Cases → ArrivalValue Tag → (kept : Bool) → StationRefusal
arrival_reason c arrival kept =
    reason_of (λ w. known_arrival_refusal w arrival kept) (λ o. open_arrival_refusal o arrival kept) WrongKeep c

abbrev pub cases_meet : Cases → ArrivalValue Tag → (kept : Bool) → Result Cases StationRefusal
cases_meet c arrival kept = if may_meet c arrival kept then Ok (after_arrival c arrival kept) else Err (arrival_reason c arrival kept)

-- ---- what the user does

abbrev pub is_halted_state : State → Bool
is_halted_state Halted = true
is_halted_state state = false

abbrev pub is_halted : Option Known → Bool
is_halted None = false
is_halted (Some w) = is_halted_state w.variables.state

abbrev pub may_start : Cases → Bool
may_start c = c.halted || is_halted c.istrt || is_halted c.astrt

-- after a start all is known
abbrev pub started_cases : Cases
started_cases = record { halted = false; istrt = Some in_istrt; astrt = None; running = None; ahead = None }

abbrev pub halted_cases : Cases
halted_cases = record { halted = true; istrt = None; astrt = None; running = None; ahead = None }

abbrev pub cases_user : Cases → StationEvent → Result Cases StationRefusal
cases_user c Start = if may_start c then Ok started_cases else Err WrongUserEvent
cases_user c Halt = Ok halted_cases

-- ---- the records of a capture; hints are asked apart

abbrev pub of_station : Result Cases StationRefusal → Result Cases StepRefusal
of_station (Ok c) = Ok c
of_station (Err refusal) = Err (OfStation refusal)

abbrev pub sent_by_cases : Cases → ReadingValue → Result Cases StepRefusal
sent_by_cases c (read.Sound m) = of_station (cases_send c m)
sent_by_cases c bad = Err NotAMessage

abbrev pub received_by_cases : Cases → (kept : Bool) → ReadingValue → Result Cases StepRefusal
received_by_cases c kept (read.Sound m) = of_station (cases_meet c (Sound m unknown_period) kept)
received_by_cases c kept read.HeaderBad = of_station (cases_meet c HeaderBad kept)
received_by_cases c kept read.DataBad = of_station (cases_meet c DataBad kept)
received_by_cases c kept (Malformed departure) = Err NotAMessage

abbrev pub noise_by_cases : Cases → Option (ArrivalValue Tag) → Result Cases StepRefusal
noise_by_cases c None = Err NotNoise
noise_by_cases c (Some arrival) = of_station (cases_meet c arrival false)

-- a boot halts it, and the events of links change nothing
abbrev pub event_by_cases : Cases → Event → Result Cases StepRefusal
event_by_cases c events.Start = of_station (cases_user c Start)
event_by_cases c events.Halt = of_station (cases_user c Halt)
event_by_cases c events.Boot = of_station (cases_user c Halt)
event_by_cases c event = Ok c

abbrev pub cases_step : Cases → Record → Result Cases StepRefusal
cases_step c (Sent bytes) = sent_by_cases c (reading bytes)
cases_step c (Received hint fate bytes) = received_by_cases c (is_kept fate) (reading bytes)
cases_step c (Noise bytes) = noise_by_cases c (damage (reading bytes))
cases_step c (User event) = event_by_cases c event

abbrev pub then_all : Result Cases StepRefusal → (Cases → Result Cases StepRefusal) → Result Cases StepRefusal
then_all (Ok c) later = later c
then_all (Err refusal) later = Err refusal

abbrev pub cases_after : Cases → List Record → Result Cases StepRefusal
cases_after c [] = Ok c
cases_after c (r ∷ records) = then_all (cases_step c r) (λ next. cases_after next records)
