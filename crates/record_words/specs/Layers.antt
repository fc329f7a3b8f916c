-- Where the layers of a record's bytes lie: a packet in a unit, and a message of NSP in a packet.
use Rattle.std.specs.Prelude.{ℕ, ◌/◌, ◌%◌, ◌==◌, Bool, List, Option, Some, None, Result, Ok, Err, if◌then◌else◌}
use Rattle.ddcmp_msg.specs.Message.{MessageValue, Data}
use Rattle.ddcmp_msg.specs.Reading.{ReadingValue, Sound, reading}
use Rattle.dna_packet.specs.declared.fault.PacketFault.{PacketFault}
use Rattle.dna_packet.specs.Packet.{PacketValue, Data as DataPacket}
use Rattle.dna_packet.specs.ReadingPacket.{packet_at}

abbrev pub body_of : MessageValue → Option (List ℕ)
body_of (Data flags resp num body) = Some body
body_of message = None

-- the packet of a sound data message
abbrev pub packet_in : ReadingValue → Option (List ℕ)
packet_in (Sound message) = body_of message
packet_in reading = None

-- bit 4 of RTFLG: the packet is on its way back to its source
abbrev pub is_on_its_way_back : (rtflg : ℕ) → Bool
is_on_its_way_back rtflg = (rtflg / 16 % 2) == 1

-- the message of a data packet, but of one on its way back
abbrev pub message_in : PacketValue → Option (List ℕ)
message_in (DataPacket rtflg dst src forward message) = if is_on_its_way_back rtflg then None else Some message
message_in packet = None

-- the same of what bytes were read as
abbrev pub message_of : Result PacketValue PacketFault → Option (List ℕ)
message_of (Ok packet) = message_in packet
message_of (Err fault) = None

abbrev pub message_in_packet : Option (List ℕ) → Option (List ℕ)
message_in_packet None = None
message_in_packet (Some packet) = message_of (packet_at packet)

-- the message in a unit of these bytes
abbrev pub message_in_unit : List ℕ → Option (List ℕ)
message_in_unit bytes = message_in_packet (packet_in (reading bytes))
