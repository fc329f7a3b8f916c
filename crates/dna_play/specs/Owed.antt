-- What an end of the player owes as a station (DDCMP 4.1, startup and data transfer): what it comes to owe and what it owes no more. It goes by
-- the station variables and by bytes as they came. A thing is owed once, however often it arose.
use Rattle.std.specs.Prelude.{Bool, true, false, ◌&&◌, not, ◌==◌, if◌then◌else◌, Option, Some, None, length}
use Rattle.ddcmp_msg.specs.Message.{MessageValue, Data, Rep, Strt, Stack}
use Rattle.ddcmp_msg.specs.Reading.{ReadingValue, Sound, HeaderBad, DataBad, Malformed}
use Rattle.ddcmp_msg.specs.declared.nak_reason.NakReason.{NakReason}
use Rattle.ddcmp_msg.specs.declared.nak_reason.NakReason.TheVariants.{HeaderCheck, DataCheck, RepResponse, NoBuffer}
use Rattle.dna_station.specs.declared.state.State.{State}
use Rattle.dna_station.specs.declared.state.State.TheVariants.{Halted, Istrt, Astrt, Running}
use Rattle.dna_station.specs.Table.{row}
use Rattle.dna_station.specs.Book.{num_of, has_packet}
use Rattle.dna_station.specs.WireStation.{StationVariables}
use Rattle.dna_station.specs.WireBook.{wire_is_next}

pub record Owed : Type 0 where
  pub strt : Bool
  pub stack : Bool
  pub ack : Bool
  pub rep : Bool
  -- a NAK of each of these reasons
  pub header_check : Bool
  pub data_check : Bool
  pub rep_response : Bool
  pub no_buffer : Bool

abbrev pub nothing : Owed
nothing = record {
  strt = false;
  stack = false;
  ack = false;
  rep = false;
  header_check = false;
  data_check = false;
  rep_response = false;
  no_buffer =
      false;
}

-- One thing that a station may owe
pub data Debt : Type 0 where
  OwesStrt : Debt
  OwesStack : Debt
  OwesAck : Debt
  OwesRep : Debt
  OwesNak : (reason : NakReason) → Debt

-- whether a NAK of this reason is owed; no other reason ever is
abbrev pub with_nak : NakReason → Bool → Owed → Owed
with_nak HeaderCheck owes owed = record owed { header_check = owes }
with_nak DataCheck owes owed = record owed { data_check = owes }
with_nak RepResponse owes owed = record owed { rep_response = owes }
with_nak NoBuffer owes owed = record owed { no_buffer = owes }
with_nak reason owes owed = owed

abbrev pub with_debt : Option Debt → Owed → Owed
with_debt None owed = owed
with_debt (Some OwesStrt) owed = record owed { strt = true }
with_debt (Some OwesStack) owed = record owed { stack = true }
with_debt (Some OwesAck) owed = record owed { ack = true }
with_debt (Some OwesRep) owed = record owed { rep = true }
with_debt (Some (OwesNak reason)) owed = with_nak reason true owed

-- ---- what each thing that happens makes a station owe

-- data with NUM = R + 1: taken, ACK; not kept, NAK 8. Other data: nothing
abbrev pub data_debt : (next kept : Bool) → Option Debt
data_debt true true = Some OwesAck
data_debt true false = Some (OwesNak NoBuffer)
data_debt false kept = None

-- REP with NUM = R: ACK; another: NAK 3
abbrev pub rep_debt : (last : Bool) → Debt
rep_debt true = OwesAck
rep_debt false = OwesNak RepResponse

-- damage, in RUNNING alone: NAK 1 for a bad header, NAK 2 for bad data
abbrev pub damage_debt : State → NakReason → Option Debt
damage_debt Running reason = Some (OwesNak reason)
damage_debt state reason = None

abbrev pub same_state : State → State → Bool
same_state Halted Halted = true
same_state Istrt Istrt = true
same_state Astrt Astrt = true
same_state Running Running = true
same_state one other = false

abbrev pub unless_left : (stays : Bool) → Owed → Owed
unless_left true owed = owed
unless_left false owed = nothing

module _ {L : Type 0} where
  -- ---- the timer runs out

  abbrev pub all_acknowledged : StationVariables L → Bool
  all_acknowledged k = length k.held == 0

  -- ISTRT: STRT; ASTRT: STACK; RUNNING: REP where a packet is outstanding, else ACK; in HALTED it can't
  abbrev pub timer_debt : State → StationVariables L → Option Debt
  timer_debt Halted k = None
  timer_debt Istrt k = Some OwesStrt
  timer_debt Astrt k = Some OwesStack
  timer_debt Running k = Some (if all_acknowledged k then OwesAck else OwesRep)

  -- ---- something comes

  -- whether the packet of a message can be taken
  abbrev pub can_take : StationVariables L → MessageValue → Bool
  can_take k m = has_packet (row k.state m).effects && wire_is_next k (num_of m)

  abbrev pub message_debt : State → StationVariables L → MessageValue → (kept : Bool) → Option Debt
  -- to ASTRT: STACK; to RUNNING by a STACK: ACK
  message_debt Istrt k (Strt flags) kept = Some OwesStack
  message_debt Istrt k (Stack flags) kept = Some OwesAck
  -- STRT once more: STACK; to RUNNING by a STACK: ACK; data that leads there counts as in RUNNING
  message_debt Astrt k (Strt flags) kept = Some OwesStack
  message_debt Astrt k (Stack flags) kept = Some OwesAck
  message_debt Astrt k (Data flags resp num body) kept = data_debt (can_take k (Data flags resp num body)) kept
  -- STACK once more: ACK
  message_debt Running k (Stack flags) kept = Some OwesAck
  message_debt Running k (Rep flags num) kept = Some (rep_debt (num == k.received))
  message_debt Running k (Data flags resp num body) kept = data_debt (can_take k (Data flags resp num body)) kept
  message_debt state k m kept = None

  abbrev pub arrival_debt : StationVariables L → ReadingValue → (kept : Bool) → Option Debt
  arrival_debt k (Sound m) kept = message_debt k.state k m kept
  arrival_debt k HeaderBad kept = damage_debt k.state HeaderCheck
  arrival_debt k DataBad kept = damage_debt k.state DataCheck
  arrival_debt k (Malformed departure) kept = None

  -- ---- after every record

  -- a state that was left drops what was owed, and no REP is owed once all is acknowledged
  abbrev pub still_owed : (before after : StationVariables L) → Owed → Owed
  still_owed before after owed = let left = unless_left (same_state before.state after.state) owed in
      record left { rep = left.rep && not (all_acknowledged after) }
