-- How a station goes by the tables of `Table`, whatever it keeps: a book says what their words mean on that.
use Rattle.std.specs.Prelude.{ℕ, Bool, true, false, ◌&&◌, if◌then◌else◌, Option, Some, None, List, [], ◌∷◌, fold}
use Rattle.ddcmp_msg.specs.Message.{MessageValue, Data, Ack, Nak, Rep}
use Rattle.ddcmp_msg.specs.declared.nak_reason.NakReason.{NakReason}
use Rattle.ddcmp_msg.specs.declared.nak_reason.NakReason.TheVariants.{HeaderCheck, DataCheck}
use Rattle.dna_station.specs.declared.state.State.{State}
use Rattle.dna_station.specs.declared.state.StationEvent.{StationEvent}
use Rattle.dna_station.specs.declared.refusal.StationRefusal.{StationRefusal}
use Rattle.dna_station.specs.declared.refusal.StationRefusal.TheVariants.{WrongState, WrongKeep, CrossedPeriod}
use Rattle.dna_station.specs.declared.tag.Tag.{Tag}
use Rattle.dna_station.specs.Table.{Check, refusal_of, checks, Change, change_of, Effect, TakePacket, row, counts_damage}
use Rattle.dna_station.specs.PeriodRule.{PeriodRule, meets}

-- the fields of a message: its RESP, its NUM and its data, and 0 or nothing where it has none
abbrev pub resp_of : MessageValue → ℕ
resp_of (Data flags resp num body) = resp
resp_of (Ack flags resp) = resp
resp_of (Nak flags reason resp) = resp
resp_of m = 0

abbrev pub num_of : MessageValue → ℕ
num_of (Data flags resp num body) = num
num_of (Rep flags num) = num
num_of m = 0

abbrev pub body_of : MessageValue → List ℕ
body_of (Data flags resp num body) = body
body_of m = []

-- What comes to a station: a sound message with what is known of it, or a unit, or noise, whose header or data shows damage
pub data ArrivalValue (K : Type 0) : Type 0 where
  Sound : (message : MessageValue) → (known : K) → ArrivalValue K
  HeaderBad : ArrivalValue K
  DataBad : ArrivalValue K

-- What the words of the tables mean to a station that keeps an S, and knows a K of each message
pub record Book (S K : Type 0) : Type 0 where
  pub state : S → State
  pub after_event : S → StationEvent → S
  pub passes : S → MessageValue → Check → Bool
  pub sends : S → MessageValue → Change → S
  -- what is known of a message that is sent, by what the station keeps before and after it
  pub known : (before after : S) → MessageValue → K
  -- the tag that a station sends with, and the one that is known of a message
  pub tag : S → Tag
  pub tag_of : K → Tag
  -- whether the number of a data message is the one after the last received
  pub is_next : S → MessageValue → K → Bool
  -- what an effect of a message does, by whether its packet was kept
  pub does : MessageValue → K → (kept : Bool) → S → Effect → S
  -- one more cause for a NAK of this reason
  pub counts : NakReason → S → S

-- ---- what refuses

-- the first check that is not passed
abbrev pub first_failed : (Check → Bool) → List Check → Option StationRefusal
first_failed passes [] = None
first_failed passes (check ∷ next) = if passes check then first_failed passes next else Some (refusal_of check)

abbrev pub failed : (Check → Bool) → Option (List Check) → Option StationRefusal
failed passes None = Some WrongState
failed passes (Some list) = first_failed passes list

abbrev pub has_packet : List Effect → Bool
has_packet [] = false
has_packet (TakePacket ∷ next) = true
has_packet (effect ∷ next) = has_packet next

-- `kept` on a receipt that takes nothing: 12
abbrev pub keep_refusal : (takes kept : Bool) → Option StationRefusal
keep_refusal takes false = None
keep_refusal true true = None
keep_refusal false true = Some WrongKeep

module _ {S K : Type 0} (book : Book S K) where
  abbrev pub sending_refusal_by : S → MessageValue → Option StationRefusal
  sending_refusal_by s m = failed (book.passes s m) (checks (book.state s) m)

  -- what the row needs of the periods
  abbrev pub meets_by : PeriodRule → S → MessageValue → K → Bool
  meets_by rule s m known = rule (meets (row (book.state s) m).needs (book.tag s) (book.tag_of known))

  -- whether the packet can be taken
  abbrev pub takes_by : S → MessageValue → K → Bool
  takes_by s m known = has_packet (row (book.state s) m).effects && book.is_next s m known

  -- 13, and after it 12
  abbrev pub arrival_refusal_by : PeriodRule → S → ArrivalValue K → Bool → Option StationRefusal
  arrival_refusal_by rule s (Sound m known) kept = if meets_by rule s m known then keep_refusal (takes_by s m known) kept else Some CrossedPeriod
  arrival_refusal_by rule s HeaderBad kept = keep_refusal false kept
  arrival_refusal_by rule s DataBad kept = keep_refusal false kept

  -- ---- what comes of what is not refused

  abbrev pub after_sending_by : S → MessageValue → S
  after_sending_by s m = book.sends s m (change_of m)

  abbrev pub damaged_by : NakReason → S → S
  damaged_by reason s = if counts_damage (book.state s) then book.counts reason s else s

  abbrev pub after_arrival_by : S → ArrivalValue K → Bool → S
  after_arrival_by s (Sound m known) kept = fold (book.does m known kept) s (row (book.state s) m).effects
  after_arrival_by s HeaderBad kept = damaged_by HeaderCheck s
  after_arrival_by s DataBad kept = damaged_by DataCheck s
