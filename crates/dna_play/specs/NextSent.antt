-- What an end of the player sends next: chosen by the station variables, the link variables and what is owed. It is put together by `Compose`.
use Rattle.std.specs.Prelude.{ℕ, ◌+◌, Bool, true, false, ◌&&◌, ◌||◌, nat_lt, if◌then◌else◌, Option, Some, None, List, [], ◌∷◌, length}
use Rattle.ddcmp_msg.specs.declared.nak_reason.NakReason.{NakReason}
use Rattle.ddcmp_msg.specs.declared.nak_reason.NakReason.TheVariants.{HeaderCheck, DataCheck, RepResponse, NoBuffer}
use Rattle.dna_station.specs.declared.state.State.{State}
use Rattle.dna_station.specs.declared.state.State.TheVariants.{Halted, Istrt, Astrt, Running}
use Rattle.dna_links.specs.declared.port.Port.{Port}
use Rattle.dna_station.specs.Table.{WINDOW}
use Rattle.dna_station.specs.WireStation.{StationVariables}
use Rattle.dna_station.specs.WireBook.{wire_is_new}
use Rattle.dna_links.specs.LookUps.{is_running}
use Rattle.dna_links.specs.Segmentation.{has_more}
use Rattle.dna_links.specs.SegmentBook.{REACH}
use Rattle.dna_links.specs.WireSegments.{LinkVariables}
use Rattle.dna_play.specs.Owed.{Owed, with_nak}
use Rattle.dna_play.specs.LinkOwed.{LinkOwed, EndConfirm, Duty, ConnectAckDuty, InitiateDuty, ConfirmDuty, DisconnectDuty, DataAckDuty, SegmentDuty}
use Rattle.dna_play.specs.LinkOwed.{with_duty}

-- ---- the links

-- One end of a link as any node keeps it, with what it owes
pub record LinkEnd : Type 0 where
  pub port : Port
  pub variables : LinkVariables
  pub owed : LinkOwed

-- the next message of the links
pub data LinkChoice : Type 0 where
  -- the oldest DC that is owed
  Confirms : EndConfirm → LinkChoice
  -- of the link at this place
  OfLink : (number : ℕ) (duty : Duty) → LinkChoice

-- an outstanding segment that is not sent in the present go yet
abbrev pub has_repeat : LinkEnd → Bool
has_repeat l = nat_lt l.owed.ahead (length l.variables.outstanding)

-- fewer than 2,047 are outstanding, and something handed in is in no segment yet
abbrev pub has_new : LinkEnd → Bool
has_new l = nat_lt (length l.variables.outstanding) REACH && has_more l.variables.unsent.messages

-- segments in RUN alone
abbrev pub has_segment : LinkEnd → Bool
has_segment l = is_running l.port.phase && (has_repeat l || has_new l)

-- the first of the six kinds
abbrev pub duty_of : LinkEnd → Option Duty
duty_of l =
    if l.owed.connect_ack then Some ConnectAckDuty else
    if l.owed.initiate then Some InitiateDuty else
    if l.owed.confirm then Some ConfirmDuty else
    if l.owed.disconnect then Some DisconnectDuty else
    if l.owed.data_ack then Some DataAckDuty else
    if has_segment l then Some SegmentDuty else
    None

-- of the first link that has any
abbrev pub duty_or_next : ℕ → Option Duty → Option LinkChoice → Option LinkChoice
duty_or_next number None next = next
duty_or_next number (Some duty) next = Some (OfLink number duty)

abbrev pub first_duty : (number : ℕ) → List LinkEnd → Option LinkChoice
first_duty number [] = None
first_duty number (link ∷ links) = duty_or_next number (duty_of link) (first_duty (number + 1) links)

-- DCs come before the links
abbrev pub link_choice : List EndConfirm → List LinkEnd → Option LinkChoice
link_choice [] links = first_duty 0 links
link_choice (confirm ∷ later) links = Some (Confirms confirm)

-- sending clears what it sends
abbrev pub without_duty : Duty → LinkOwed → LinkOwed
without_duty InitiateDuty owed = record owed { initiate = false; initiated = true }
without_duty SegmentDuty owed = record owed { ahead = owed.ahead + 1 }
without_duty duty owed = with_duty duty false owed

-- ---- the station

pub data Choice : Type 0 where
  SendStrt : Choice
  SendStack : Choice
  SendNak : (reason : NakReason) → Choice
  SendRep : Choice
  -- the packet of number T once more; a new packet with this message
  SendAgain : Choice
  SendNew : LinkChoice → Choice
  SendAck : Choice

abbrev pub when : Bool → Choice → Option Choice
when true choice = Some choice
when false choice = None

abbrev pub or_else : Option Choice → Option Choice → Option Choice
or_else None next = next
or_else (Some choice) next = Some choice

abbrev pub lowest_nak : Owed → Option Choice
lowest_nak owed =
    if owed.header_check then Some (SendNak HeaderCheck) else
    if owed.data_check then Some (SendNak DataCheck) else
    if owed.rep_response then Some (SendNak RepResponse) else
    if owed.no_buffer then Some (SendNak NoBuffer) else
    None

abbrev pub new_packet : Option LinkChoice → Option Choice
new_packet None = None
new_packet (Some message) = Some (SendNew message)

module _ {L : Type 0} where
  -- number T again if it was given; else a new one if fewer than 255 are outstanding and the links have a message
  abbrev pub data_choice : StationVariables L → Option LinkChoice → Option Choice
  data_choice k message =
      if wire_is_new k then (if nat_lt (length k.held) WINDOW then new_packet message else None) else
      Some SendAgain

  -- ISTRT: STRT; ASTRT: STACK; RUNNING: the lowest NAK, else REP, else data, else ACK
  abbrev pub choice_in : State → StationVariables L → Owed → Option LinkChoice → Option Choice
  choice_in Halted k owed message = None
  choice_in Istrt k owed message = when owed.strt SendStrt
  choice_in Astrt k owed message = when owed.stack SendStack
  choice_in Running k owed message =
      or_else (lowest_nak owed) (or_else (when owed.rep SendRep) (or_else (data_choice k message) (when owed.ack SendAck)))

  abbrev pub choice : StationVariables L → Owed → Option LinkChoice → Option Choice
  choice k owed message = choice_in k.state k owed message

-- sending clears what it sends; a NAK and data carry what an ACK says
abbrev pub after_choice : Choice → Owed → Owed
after_choice SendStrt owed = record owed { strt = false }
after_choice SendStack owed = record owed { stack = false }
after_choice (SendNak reason) owed = with_nak reason false (record owed { ack = false })
after_choice SendRep owed = record owed { rep = false }
after_choice SendAgain owed = record owed { ack = false }
after_choice (SendNew message) owed = record owed { ack = false }
after_choice SendAck owed = record owed { ack = false }
