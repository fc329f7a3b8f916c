-- A station in RUNNING whose capture begins in its midst: what is known of it, and what its records make of that. Its causes of NAKs are not known.
use Rattle.std.specs.Prelude.{ℕ, ◌+◌, Bool, true, false, ◌==◌, if◌then◌else◌, Option, Some, None, List, [], replicate, slice_get, slice_set}
use Rattle.std.specs.Str.{bytes_eq}
use Rattle.ddcmp_msg.specs.Message.{MessageValue, Data, Ack, Nak, Rep, Strt, Stack}
use Rattle.dna_station.specs.declared.tag.Tag.{Tag}
use Rattle.dna_station.specs.declared.refusal.StationRefusal.{StationRefusal}
use Rattle.dna_station.specs.declared.refusal.StationRefusal.TheVariants.{WrongState, WrongNumber, WrongResponse, WindowFull, Changed}
use Rattle.dna_station.specs.Book.{ArrivalValue, Sound, HeaderBad, DataBad, keep_refusal}
use Rattle.dna_station.specs.Station.{wire}
use Rattle.part_station.specs.declared.numbers.Numbers.{Numbers}
use Rattle.part_station.specs.Numbers.{data_number, has_room, after_data, rep_refusal, after_rep, may_answer, may_lie_ahead, after_response}
use Rattle.part_station.specs.Numbers.{after_response_ahead}

-- data that were sent in the capture; none have number 0
pub record SeenPacket : Type 0 where
  pub number : ℕ
  pub body : List ℕ

pub record Open : Type 0 where
  -- R, once it was sent or a packet was kept
  pub received : Option ℕ
  -- A, N and T, once one of them is known
  pub numbers : Option Numbers
  -- the data last seen of each wire value
  pub seen : List SeenPacket

abbrev pub nothing_seen : List SeenPacket
nothing_seen = replicate 256 (record { number = 0; body = [] })

-- nothing is known
abbrev pub first_open : Open
first_open = record { received = None; numbers = None; seen = nothing_seen }

-- ---- what it may send

-- RESP is R, else (8)
abbrev pub is_received : Option ℕ → ℕ → Bool
is_received None resp = true
is_received (Some received) resp = resp == received

-- the data are those of the number, where they were seen, else (10)
abbrev pub is_packet : Option SeenPacket → ℕ → List ℕ → Bool
is_packet None next body = true
is_packet (Some packet) next body = if packet.number == next then bytes_eq body packet.body else true

abbrev pub data_refusal : Open → ℕ → List ℕ → Option ℕ → Option StationRefusal
data_refusal o resp body None = Some WrongNumber
data_refusal o resp body (Some next) =
    if is_received o.received resp
    then (if has_room o.numbers next
    then (if is_packet (slice_get o.seen (wire next)) next body then None else Some Changed)
    else Some WindowFull)
    else Some WrongResponse

abbrev pub response_refusal : Open → ℕ → Option StationRefusal
response_refusal o resp = if is_received o.received resp then None else Some WrongResponse

-- any NAK may have a cause
abbrev pub open_sending_refusal : Open → MessageValue → Option StationRefusal
open_sending_refusal o (Data flags resp num body) = data_refusal o resp body (data_number o.numbers num)
open_sending_refusal o (Ack flags resp) = response_refusal o resp
open_sending_refusal o (Nak flags reason resp) = response_refusal o resp
open_sending_refusal o (Rep flags num) = rep_refusal o.numbers num
open_sending_refusal o (Strt flags) = Some WrongState
open_sending_refusal o (Stack flags) = Some WrongState

abbrev pub with_seen : Open → ℕ → List ℕ → Option ℕ → Open
with_seen o resp body None = o
with_seen o resp body (Some next) = record {
  received = Some resp;
  numbers = Some (after_data o.numbers next);
  seen = slice_set o.seen (wire next) (record { number = next; body = body });
}

abbrev pub open_after_sending : Open → MessageValue → Open
open_after_sending o (Data flags resp num body) = with_seen o resp body (data_number o.numbers num)
open_after_sending o (Ack flags resp) = record o { received = Some resp }
open_after_sending o (Nak flags reason resp) = record o { received = Some resp }
open_after_sending o (Rep flags num) = record o { numbers = Some (after_rep o.numbers num) }
open_after_sending o (Strt flags) = o
open_after_sending o (Stack flags) = o

-- ---- what comes

-- the packet is the one after the last received
abbrev pub may_take : Option ℕ → ℕ → Bool
may_take None num = true
may_take (Some received) num = num == wire (received + 1)

abbrev pub unless_wrong : Open → ℕ → Option StationRefusal → Option StationRefusal
unless_wrong o resp refusal = if may_answer o.numbers resp then refusal else Some WrongResponse

-- RESP is the other side's (8); what is kept was taken (12)
abbrev pub open_arrival_refusal : Open → ArrivalValue Tag → (kept : Bool) → Option StationRefusal
open_arrival_refusal o (Sound (Data flags resp num body) tag) kept = unless_wrong o resp (keep_refusal (may_take o.received num) kept)
open_arrival_refusal o (Sound (Ack flags resp) tag) kept = unless_wrong o resp (keep_refusal false kept)
open_arrival_refusal o (Sound (Nak flags reason resp) tag) kept = unless_wrong o resp (keep_refusal false kept)
open_arrival_refusal o (Sound (Rep flags num) tag) kept = keep_refusal false kept
open_arrival_refusal o (Sound (Strt flags) tag) kept = keep_refusal false kept
open_arrival_refusal o (Sound (Stack flags) tag) kept = keep_refusal false kept
open_arrival_refusal o HeaderBad kept = keep_refusal false kept
open_arrival_refusal o DataBad kept = keep_refusal false kept

-- a STRT halts it
abbrev pub is_restart : ArrivalValue Tag → Bool
is_restart (Sound (Strt flags) tag) = true
is_restart arrival = false

abbrev pub received_after : Option ℕ → ℕ → (kept : Bool) → Option ℕ
received_after received num true = Some num
received_after received num false = received

-- where RESP is the least number that it may be, or it has none
abbrev pub open_after_arrival : Open → ArrivalValue Tag → (kept : Bool) → Open
open_after_arrival o (Sound (Data flags resp num body) tag) kept = record {
  received = received_after o.received num kept;
  numbers = Some (after_response false o.numbers resp);
  seen = o.seen;
}
open_after_arrival o (Sound (Ack flags resp) tag) kept = record o { numbers = Some (after_response false o.numbers resp) }
open_after_arrival o (Sound (Nak flags reason resp) tag) kept = record o { numbers = Some (after_response true o.numbers resp) }
open_after_arrival o arrival kept = o

-- Where RESP is the number 256 above: the station was sending again, and none of the data that were seen is outstanding
abbrev pub ahead_with : (back : Bool) → Open → (received : Option ℕ) → ℕ → Option Open
ahead_with back o received resp =
    if may_lie_ahead o.numbers resp
    then Some (record { received = received; numbers = Some (after_response_ahead back o.numbers resp); seen = nothing_seen })
    else None

abbrev pub open_ahead : Open → ArrivalValue Tag → (kept : Bool) → Option Open
open_ahead o (Sound (Data flags resp num body) tag) kept = ahead_with false o (received_after o.received num kept) resp
open_ahead o (Sound (Ack flags resp) tag) kept = ahead_with false o o.received resp
open_ahead o (Sound (Nak flags reason resp) tag) kept = ahead_with true o o.received resp
open_ahead o arrival kept = None
