-- The message of the links in a unit.
use Rattle.std.specs.Prelude.{ℕ, ◌/◌, ◌%◌, Bool, ◌==◌, if◌then◌else◌, Option, Some, None, List, Result, Ok, Err}
use Rattle.ddcmp_msg.specs.Message as messages
use Rattle.ddcmp_msg.specs.Reading.{ReadingValue, Sound, reading}
use Rattle.dna_packet.specs.declared.fault.PacketFault.{PacketFault}
use Rattle.dna_packet.specs.Packet.{PacketValue, Data, Control}
use Rattle.dna_packet.specs.ReadingPacket.{packet_at}
use Rattle.dna_packet.specs.Nsp.{NspValue}
use Rattle.dna_packet.specs.ReadingNsp.{nsp_at}

-- bit 4 of RTFLG: the packet is on its way back to its source
abbrev pub is_returned : ℕ → Bool
is_returned rtflg = rtflg / 16 % 2 == 1

abbrev pub if_read : {E : Type 0} → Result NspValue E → Option NspValue
if_read (Ok message) = Some message
if_read (Err fault) = None

-- the message in a packet that was read: one that is returned, and a routing control packet, have none for the links
abbrev pub message_of : Result PacketValue PacketFault → Option NspValue
message_of (Ok (Data rtflg dst src forward nsp)) = if is_returned rtflg then None else if_read (nsp_at nsp)
message_of (Ok (Control bytes)) = None
message_of (Err fault) = None

-- the message in a unit that was read: none where it is no sound data message
abbrev pub message_in : ReadingValue → Option NspValue
message_in (Sound (messages.Data flags resp num packet)) = message_of (packet_at packet)
message_in reading = None

abbrev pub message_in_unit : List ℕ → Option NspValue
message_in_unit unit = message_in (reading unit)
