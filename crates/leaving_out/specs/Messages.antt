-- The message of the links in a packet or a unit.
use Rattle.std.specs.Prelude.{ℕ, ◌/◌, ◌%◌, Bool, ◌==◌, if◌then◌else◌, Option, Some, None, List, Result, Ok, Err}
use Rattle.ddcmp_msg.specs.Message as messages
use Rattle.ddcmp_msg.specs.Reading.{ReadingValue, Sound, HeaderBad, DataBad, Malformed, reading}
use Rattle.dna_packet.specs.declared.fault.PacketFault.{PacketFault}
use Rattle.dna_packet.specs.Packet.{PacketValue, Data, Control}
use Rattle.dna_packet.specs.ReadingPacket.{packet_at}
use Rattle.dna_packet.specs.Nsp.{NspValue, DataSegment, LinkService, DataAck, OtherDataAck, ConnectAck, NoOperation, ConnectInitiate, ConnectConfirm}
use Rattle.dna_packet.specs.Nsp.{DisconnectInitiate, DisconnectConfirm}
use Rattle.dna_packet.specs.ReadingNsp.{nsp_at}

-- SRCADDR, 0 where a message has none
abbrev pub source_of : NspValue → ℕ
source_of (DataSegment s) = s.srcaddr
source_of (LinkService interrupt dst src rest) = src
source_of (DataAck dst src acks) = src
source_of (OtherDataAck dst src rest) = src
source_of (ConnectAck dst) = 0
source_of (NoOperation rest) = 0
source_of (ConnectInitiate retransmitted src services info segsize user_data) = src
source_of (ConnectConfirm dst src services info segsize user_data) = src
source_of (DisconnectInitiate dst src reason user_data) = src
source_of (DisconnectConfirm dst src reason) = src

-- DSTADDR, likewise
abbrev pub destination_of : NspValue → ℕ
destination_of (DataSegment s) = s.dstaddr
destination_of (LinkService interrupt dst src rest) = dst
destination_of (DataAck dst src acks) = dst
destination_of (OtherDataAck dst src rest) = dst
destination_of (ConnectAck dst) = dst
destination_of (NoOperation rest) = 0
destination_of (ConnectInitiate retransmitted src services info segsize user_data) = 0
destination_of (ConnectConfirm dst src services info segsize user_data) = dst
destination_of (DisconnectInitiate dst src reason user_data) = dst
destination_of (DisconnectConfirm dst src reason) = dst

-- bit 4 of RTFLG: the packet is on its way back to its source
abbrev pub is_returned : ℕ → Bool
is_returned rtflg = rtflg / 16 % 2 == 1

abbrev pub if_read : {E : Type 0} → Result NspValue E → Option NspValue
if_read (Ok message) = Some message
if_read (Err fault) = None

-- the message in a packet that was read: a packet that is returned, and a routing control packet, have none for the links
abbrev pub message_of : Result PacketValue PacketFault → Option NspValue
message_of (Ok (Data rtflg dst src forward nsp)) = if is_returned rtflg then None else if_read (nsp_at nsp)
message_of (Ok (Control bytes)) = None
message_of (Err fault) = None

abbrev pub message_in_packet : List ℕ → Option NspValue
message_in_packet packet = message_of (packet_at packet)

-- the packet in a unit that was read
abbrev pub packet_of : ReadingValue → Option (List ℕ)
packet_of (Sound (messages.Data flags resp num body)) = Some body
packet_of (Sound (messages.Ack flags resp)) = None
packet_of (Sound (messages.Nak flags reason resp)) = None
packet_of (Sound (messages.Rep flags num)) = None
packet_of (Sound (messages.Strt flags)) = None
packet_of (Sound (messages.Stack flags)) = None
packet_of HeaderBad = None
packet_of DataBad = None
packet_of (Malformed departure) = None

abbrev pub message_within : Option (List ℕ) → Option NspValue
message_within (Some packet) = message_in_packet packet
message_within None = None

abbrev pub message_in_unit : List ℕ → Option NspValue
message_in_unit unit = message_within (packet_of (reading unit))
