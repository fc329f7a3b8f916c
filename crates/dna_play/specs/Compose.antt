-- How an end of the player puts together what it has chosen to send (DDCMP 4.1, Routing Layer 2.0, NSP 4.0, message formats).
use Rattle.std.specs.Prelude.{ℕ, ◌+◌, false, Option, Some, None, List, [], ◌∷◌, length, slice_get}
use Rattle.ddcmp_msg.specs.declared.flags.Flags.{Flags}
use Rattle.ddcmp_msg.specs.Message.{MessageValue, Data, Ack, Nak, Rep, Strt, Stack, flags_of}
use Rattle.dna_packet.specs.declared.ack_word.AckQualifier.TheVariants as qualifiers
use Rattle.dna_packet.specs.declared.ack_word.AckWord.{AckWord}
use Rattle.dna_packet.specs.Packet.{packet_bytes}
use Rattle.dna_packet.specs.Packet as packets
use Rattle.dna_packet.specs.Nsp.{NspValue, SegmentValue, DataSegment, DataAck, ConnectAck, ConnectInitiate, ConnectConfirm, DisconnectInitiate}
use Rattle.dna_packet.specs.Nsp.{DisconnectConfirm, nsp_bytes}
use Rattle.dna_station.specs.declared.head.Head.{Head}
use Rattle.dna_station.specs.Station.{wire}
use Rattle.dna_station.specs.WireStation.{HeldPacket, StationVariables}
use Rattle.dna_links.specs.SegmentBook as book
use Rattle.dna_links.specs.Segmentation.{Piece, Unsent, next_piece, SEGSIZE}
use Rattle.dna_play.specs.LinkOwed.{Duty, ConnectAckDuty, InitiateDuty, ConfirmDuty, DisconnectDuty, DataAckDuty, SegmentDuty}
use Rattle.dna_play.specs.NextSent.{LinkEnd, LinkChoice, Confirms, OfLink, Choice, SendStrt, SendStack, SendNak, SendRep, SendAgain, SendNew, SendAck}

-- ---- a message of the links

-- SERVICES and INFO of CI and CC, and the user data of CC and DI
abbrev pub SERVICES : ℕ
SERVICES = 1

abbrev pub INFO : ℕ
INFO = 2

abbrev pub USER_DATA : List ℕ
USER_DATA = 0 ∷ []

-- an address that is known; the messages of a link ask for none that is not
abbrev pub address : Option ℕ → ℕ
address None = 0
address (Some number) = number

-- an outstanding one as it was given, if one is to be sent again; else a new one
abbrev pub piece_to_send : Option Piece → Unsent → Piece
piece_to_send None u = next_piece u
piece_to_send (Some again) u = again

-- no acknowledgement words, and bit 12 clear
abbrev pub segment_with : LinkEnd → Piece → SegmentValue
segment_with l p = record {
  begins = p.begins;
  ends = p.ends;
  dstaddr = address l.port.far;
  srcaddr = address l.port.own;
  acks = [];
  number = book.wire (l.variables.acknowledged + 1 + l.owed.ahead);
  bit_12 = false;
  body = p.body;
}

-- the highest number received without a gap
abbrev pub ack_of : ℕ → AckWord
ack_of number = record { qualifier = qualifiers.Ack; number = number }

abbrev pub duty_message : Duty → LinkEnd → NspValue
duty_message ConnectAckDuty l = ConnectAck (address l.port.far)
duty_message InitiateDuty l = ConnectInitiate l.owed.initiated (address l.port.own) SERVICES INFO SEGSIZE []
duty_message ConfirmDuty l = ConnectConfirm (address l.port.far) (address l.port.own) SERVICES INFO SEGSIZE USER_DATA
duty_message DisconnectDuty l = DisconnectInitiate (address l.port.far) (address l.port.own) 0 USER_DATA
duty_message DataAckDuty l = DataAck (address l.port.far) (address l.port.own) (ack_of l.variables.received ∷ [])
duty_message SegmentDuty l = DataSegment (segment_with l (piece_to_send (slice_get l.variables.outstanding l.owed.ahead) l.variables.unsent))

abbrev pub message_at : Option LinkEnd → Duty → Option NspValue
message_at None duty = None
message_at (Some link) duty = Some (duty_message duty link)

abbrev pub link_message : LinkChoice → List LinkEnd → Option NspValue
link_message (Confirms confirm) links = Some (DisconnectConfirm confirm.dst confirm.src confirm.reason)
link_message (OfLink number duty) links = message_at (slice_get links number) duty

-- ---- its packet: RTFLG 02, FORWARD 00, from this node to the other

abbrev pub packet_with : Head → NspValue → List ℕ
packet_with head m = packet_bytes (packets.Data 2 head.peer head.own 0 (nsp_bytes m))

-- ---- the station's message

-- 00, but of STRT and STACK c0
abbrev pub no_flags : Flags
no_flags = flags_of 0

abbrev pub start_flags : Flags
start_flags = flags_of 0xc0

module _ {L : Type 0} where
  -- number T, with RESP = R
  abbrev pub data_with : StationVariables L → List ℕ → MessageValue
  data_with k body = Data no_flags k.received (wire (k.acknowledged + 1 + k.ahead)) body

  abbrev pub packet_again : StationVariables L → Option (HeldPacket L) → Option MessageValue
  packet_again k None = None
  packet_again k (Some packet) = Some (data_with k packet.body)

  abbrev pub new_data : StationVariables L → Head → Option NspValue → Option MessageValue
  new_data k head None = None
  new_data k head (Some message) = Some (data_with k (packet_with head message))

  abbrev pub message_of : Choice → Head → StationVariables L → List LinkEnd → Option MessageValue
  message_of SendStrt head k links = Some (Strt start_flags)
  message_of SendStack head k links = Some (Stack start_flags)
  message_of (SendNak reason) head k links = Some (Nak no_flags reason k.received)
  message_of SendRep head k links = Some (Rep no_flags (wire (k.acknowledged + length k.held)))
  message_of SendAgain head k links = packet_again k (slice_get k.held k.ahead)
  message_of (SendNew message) head k links = new_data k head (link_message message links)
  message_of SendAck head k links = Some (Ack no_flags k.received)
