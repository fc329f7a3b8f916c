-- A message that comes between wrong nodes to a link that is judged. That link would refuse it (16), but in the texts that are made no link meets
-- one of a link that is left out, and where the heads do not fit all go between the same nodes.
use Rattle.std.specs.Prelude.{ℕ, ◌==◌, ◌&&◌, not, Bool, false, Option, Some, None, List, Result, Ok, Err}
use Rattle.wire_base.specs.declared.side.Side.{Side}
use Rattle.wire_base.specs.Side.{other_side}
use Rattle.capture_record.specs.declared.fate.Fate.TheVariants.{NotKept, Kept, Dropped}
use Rattle.capture_record.specs.declared.record.Record.{Record}
use Rattle.capture_record.specs.declared.record.Record.TheVariants.{Sent, Received, Noise, User}
use Rattle.ddcmp_msg.specs.Reading.{reading}
use Rattle.dna_packet.specs.declared.fault.PacketFault.{PacketFault}
use Rattle.dna_packet.specs.Packet.{PacketValue, Data, Control}
use Rattle.dna_packet.specs.ReadingPacket.{packet_at}
use Rattle.dna_packet.specs.Nsp.{NspValue}
use Rattle.leaving_out.specs.declared.leaving.Head.{Head}
use Rattle.leaving_out.specs.declared.leaving.Leaving.{Leaving}
use Rattle.leaving_out.specs.Addresses.{at_receiver, head_of, is_left}
use Rattle.leaving_out.specs.Messages.{destination_of, message_in_unit, packet_of, source_of}

-- a packet that was read goes from the peer of this head to its own node
abbrev pub goes_to : Head → Result PacketValue PacketFault → Bool
goes_to head (Ok (Data rtflg dst src forward nsp)) = (src == head.peer) && (dst == head.own)
goes_to head (Ok (Control bytes)) = false
goes_to head (Err fault) = false

-- and the packet in a unit, if there is one
abbrev pub comes_to : Head → Option (List ℕ) → Bool
comes_to head (Some packet) = goes_to head (packet_at packet)
comes_to head None = false

-- a message that this side sent is for a link that is judged
abbrev pub is_for_judged : Leaving → Side → Option NspValue → Bool
is_for_judged leaving sender (Some m) = not (is_left leaving (at_receiver sender (source_of m) (destination_of m)))
is_for_judged leaving sender None = false

-- this record of a side keeps such a message, between other nodes than those of the head
abbrev pub is_wrong_node : Leaving → Side → Record → Bool
is_wrong_node leaving side (Received hint Kept unit) =
    is_for_judged leaving (other_side side) (message_in_unit unit) && not (comes_to (head_of leaving side) (packet_of (reading unit)))
is_wrong_node leaving side (Received hint NotKept unit) = false
is_wrong_node leaving side (Received hint Dropped unit) = false
is_wrong_node leaving side (Sent unit) = false
is_wrong_node leaving side (Noise bytes) = false
is_wrong_node leaving side (User event) = false
