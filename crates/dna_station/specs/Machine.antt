-- One node over any machine: what it makes of one record of its capture. The order of the cases is the order of the checks.
use Rattle.std.specs.Prelude.{ℕ, ◌+◌, Bool, true, false, Option, Some, None, Result, Ok, Err, List, if◌then◌else◌, nat_lt}
use Rattle.two_nodes.specs.Nodes.{Answer, Nodes}
use Rattle.two_nodes.specs.Nodes.Answer.{Refuses, Goes, Sends, Reads}
use Rattle.ddcmp_msg.specs.Message.{MessageValue}
use Rattle.ddcmp_msg.specs.Reading.{ReadingValue, reading, Sound}
use Rattle.capture_record.specs.declared.fate.Fate.{Fate}
use Rattle.capture_record.specs.declared.fate.Fate.TheVariants.{NotKept}
use Rattle.capture_record.specs.Fates.{is_kept}
use Rattle.capture_record.specs.declared.record.Record.{Record}
use Rattle.capture_record.specs.declared.record.Record.TheVariants.{Sent, Received, Noise, User}
use Rattle.capture_record.specs.declared.event.Event.{Event}
use Rattle.capture_record.specs.declared.event.Event.TheVariants as events
use Rattle.dna_station.specs.declared.head.Head.{Head}
use Rattle.dna_station.specs.declared.state.StationEvent.TheVariants.{Start, Halt}
use Rattle.dna_station.specs.declared.refusal.StationRefusal.{StationRefusal}
use Rattle.dna_station.specs.declared.refusal.StepRefusal.{StepRefusal}
use Rattle.dna_station.specs.declared.refusal.StepRefusal.TheVariants.{NotAMessage, HintOrder, Undetected, NotNoise, Station as OfStation}
use Rattle.dna_station.specs.Table.{user_refusal}
use Rattle.dna_station.specs.PeriodRule.{PeriodRule}
use Rattle.dna_station.specs.Book.{ArrivalValue, Book, sending_refusal_by, after_sending_by, arrival_refusal_by, after_arrival_by}
use Rattle.dna_station.specs.Line.{UnitOf, coming, damage}

-- What keeps an S and knows a K of each unit: what its user's event, a message that it sends and an arrival make of it, or why it makes none
pub record Machine (S K : Type 0) : Type 0 where
  pub user : S → Event → Result S StepRefusal
  pub sends : S → MessageValue → Result (S × K) StepRefusal
  pub arrives : S → ArrivalValue K → Fate → Result S StepRefusal

pub record NodeOf (S : Type 0) : Type 0 where
  -- the addresses in the head of its capture: the station does not go by them, the links do
  pub head : Head
  pub station : S
  -- the other side's first unit that may still come: one more than the last hint received, and 0 before any
  pub front : ℕ

-- ---- a record

module _ {S K : Type 0} where
  abbrev pub does : NodeOf S → Result S StepRefusal → Answer (NodeOf S) (UnitOf K) StepRefusal
  does n (Ok s) = Goes (record n { station = s })
  does n (Err refusal) = Refuses refusal

  abbrev pub sends : NodeOf S → List ℕ → MessageValue → Result (S × K) StepRefusal → Answer (NodeOf S) (UnitOf K) StepRefusal
  sends n bytes m (Ok after) = Sends (record n { station = after.0 }) (record { bytes = bytes; message = m; known = after.1 })
  sends n bytes m (Err refusal) = Refuses refusal

-- what came is met, and the front goes on to this one
abbrev pub met : {S : Type 0} → NodeOf S → (front : ℕ) → Result S StepRefusal → Result (NodeOf S) StepRefusal
met n front (Ok s) = Ok (record n { station = s; front = front })
met n front (Err refusal) = Err refusal

module _ {S K : Type 0} (machine : Machine S K) where
  abbrev pub user_step : NodeOf S → Event → Answer (NodeOf S) (UnitOf K) StepRefusal
  user_step n event = does n (machine.user n.station event)

  abbrev pub sent_step : NodeOf S → List ℕ → ReadingValue → Answer (NodeOf S) (UnitOf K) StepRefusal
  sent_step n bytes (Sound m) = sends n bytes m (machine.sends n.station m)
  sent_step n bytes read = Refuses NotAMessage

  abbrev pub comes : NodeOf S → (front : ℕ) → Fate → Option (ArrivalValue K) → Result (NodeOf S) StepRefusal
  comes n front fate None = Err Undetected
  comes n front fate (Some arrival) = met n front (machine.arrives n.station arrival fate)

  -- the unit has been sent; its number lies at or above the front, which goes past it
  abbrev pub receives : NodeOf S → ℕ → Fate → List ℕ → UnitOf K → Result (NodeOf S) StepRefusal
  receives n hint fate bytes unit =
      if nat_lt hint n.front then Err HintOrder else comes n (hint + 1) fate (coming unit bytes)

  -- bytes that nobody sent: damage that a block check shows is met as such an arrival, and all else is no noise
  abbrev pub noise_comes : S → Option (ArrivalValue K) → Result S StepRefusal
  noise_comes s None = Err NotNoise
  noise_comes s (Some arrival) = machine.arrives s arrival NotKept

  -- the front stays
  abbrev pub noise_step : NodeOf S → ReadingValue → Answer (NodeOf S) (UnitOf K) StepRefusal
  noise_step n read = does n (noise_comes n.station (damage read))

  abbrev pub step : NodeOf S → Record → Answer (NodeOf S) (UnitOf K) StepRefusal
  step n (Sent bytes) = sent_step n bytes (reading bytes)
  step n (Received hint fate bytes) = Reads hint (receives n hint fate bytes)
  step n (Noise bytes) = noise_step n (reading bytes)
  step n (User event) = user_step n event

-- ---- two nodes

-- the other side's unit that a record names
abbrev pub named_unit : Record → Option ℕ
named_unit (Sent bytes) = None
named_unit (Received hint fate bytes) = Some hint
named_unit (Noise bytes) = None
named_unit (User event) = None

-- whether a record sends a unit
abbrev pub is_sent : Record → Bool
is_sent (Sent bytes) = true
is_sent (Received hint fate bytes) = false
is_sent (Noise bytes) = false
is_sent (User event) = false

-- both nodes go by the same step
abbrev pub pair_of : {S K : Type 0} → Machine S K → Nodes (NodeOf S) Record (UnitOf K) StepRefusal
pair_of machine = record { node_a = step machine; node_b = step machine; named = named_unit; sends = is_sent }

-- ---- a station alone: packets are carried unread

abbrev pub unless_refused : {X : Type 0} → Option StationRefusal → X → Result X StepRefusal
unless_refused None x = Ok x
unless_refused (Some refusal) x = Err (OfStation refusal)

module _ {S K : Type 0} (rule : PeriodRule) (book : Book S K) where
  abbrev pub user_by : S → Event → Result S StepRefusal
  user_by s events.Start = unless_refused (user_refusal (book.state s) Start) (book.after_event s Start)
  user_by s events.Halt = unless_refused (user_refusal (book.state s) Halt) (book.after_event s Halt)
  -- a boot halts it
  user_by s events.Boot = unless_refused (user_refusal (book.state s) Halt) (book.after_event s Halt)
  -- it has no links, and their events change nothing
  user_by s (events.Open link) = Ok s
  user_by s (events.Accept partner link) = Ok s
  user_by s (events.Reject partner link) = Ok s
  user_by s (events.In link bytes) = Ok s
  user_by s (events.Up link bytes) = Ok s
  user_by s (events.Close link) = Ok s
  user_by s (events.Abort link) = Ok s
  user_by s (events.Composed bytes) = Ok s
  user_by s (events.Interrupt link bytes) = Ok s
  user_by s (events.Interrupted link bytes) = Ok s

  abbrev pub station_alone : Machine S K
  station_alone = record {
    user = user_by;
    sends = λ s m. unless_refused (sending_refusal_by book s m) (after_sending_by book s m, book.known s (after_sending_by book s m) m);
    arrives = λ s arrival fate.
        unless_refused (arrival_refusal_by book rule s arrival (is_kept fate)) (after_arrival_by book s arrival (is_kept fate));
  }
