-- What becomes of a packet and of its unit: the same at both ends, so that what comes is still what was sent.
use Rattle.std.specs.Prelude.{◌≡◌, ◌≢◌, ℕ, ◌+◌, ◌-◌, ◌*◌, ◌/◌, ◌%◌, ◌<◌, ◌==◌, ◌&&◌, not, Bool, if◌then◌else◌, List, [], ◌∷◌, Option, Some, None}
use Rattle.std.specs.Prelude.{Result, Ok, Err}
use Rattle.std.specs.Global.{Vec}
use Rattle.wire_base.specs.declared.side.Side.{Side}
use Rattle.ddcmp_msg.specs.Message as messages
use Rattle.ddcmp_msg.specs.Reading.{ReadingValue, Sound, HeaderBad, DataBad, Malformed, reading}
use Rattle.ddcmp_msg.specs.Spelling.{spelling}
use Rattle.dna_packet.specs.declared.fault.PacketFault.{PacketFault}
use Rattle.dna_packet.specs.declared.fault.NspFault.{NspFault}
use Rattle.dna_packet.specs.Packet.{PacketValue, Data, Control, packet_bytes}
use Rattle.dna_packet.specs.ReadingPacket.{packet_at}
use Rattle.dna_packet.specs.Nsp.{NspValue, DataSegment, LinkService, DataAck, OtherDataAck, ConnectAck, NoOperation, ConnectInitiate, ConnectConfirm}
use Rattle.dna_packet.specs.Nsp.{DisconnectInitiate, DisconnectConfirm, nsp_bytes}
use Rattle.dna_packet.specs.ReadingNsp.{nsp_at}
use Rattle.leaving_out.specs.declared.leaving.Head.{Head}
use Rattle.leaving_out.specs.declared.leaving.Leaving.{Leaving}
use Rattle.leaving_out.specs.declared.packet_left.Route.{Route}
use Rattle.leaving_out.specs.Addresses.{at_receiver, at_sender, head_of, is_left}
use Rattle.leaving_out.specs.Messages.{destination_of, is_returned, source_of}

-- the low three bits of RTFLG are 010, and bit 7 is clear
abbrev pub IsShortFormat : ℕ → Type 0
IsShortFormat rtflg = (rtflg < 128) × (rtflg % 8 ≡ 2)

-- A packet that can't be read, as a routing control packet of the same length: of the first byte bit 0 is set and bit 7 clear. No bytes become one.
abbrev pub carried : List ℕ → List ℕ
carried [] = 1 ∷ []
carried (first ∷ rest) = (first % 128 / 2 * 2 + 1) ∷ rest

-- The packet of a message, as a routing control packet of the same length, which no link meets. The first byte of such a packet is 2 and up to four
-- more bits, and that of no two packets becomes the same: a packet that comes, or is sent again, with other bytes is told from it as before.
abbrev pub unmet : List ℕ → List ℕ
unmet [] = 1 ∷ []
unmet (first ∷ rest) = (129 - first) ∷ rest

-- the first byte is that of a short format data packet
abbrev pub BeginsShort : List ℕ → Type 0
BeginsShort [] = ⊥
BeginsShort (first ∷ rest) = IsShortFormat first

abbrev pub carried_if : Bool → List ℕ → List ℕ
carried_if is_carried packet = if is_carried then carried packet else packet

abbrev pub route_of : (rtflg dst src forward : ℕ) → Route
route_of rtflg dst src forward = record { rtflg = rtflg; dst = dst; src = src; forward = forward }

-- the packet with this routing header that has this message
abbrev pub packet_with : Route → NspValue → List ℕ
packet_with route m = packet_bytes (Data route.rtflg route.dst route.src route.forward (nsp_bytes m))

-- a message between two links, both of which it names, from the node of this head to its peer
abbrev pub names_both : Head → Route → (link_dst link_src : ℕ) → Bool
names_both head route link_dst link_src =
    (route.src == head.own) && (route.dst == head.peer) && not (link_dst == 0) && not (link_src == 0)

-- No link meets the packet of a message that is left out. But one of a DI or DC that names both links ends a call at the far end, whatever link it
-- is of: it has a DC, which a right node may send of no link.
abbrev pub link_left : Head → Route → List ℕ → NspValue → List ℕ
link_left head route packet (DisconnectInitiate link_dst link_src reason user_data) =
    if names_both head route link_dst link_src then packet_with route (DisconnectConfirm link_dst link_src reason) else unmet packet
link_left head route packet (DisconnectConfirm link_dst link_src reason) =
    if names_both head route link_dst link_src then packet else unmet packet
link_left head route packet (DataSegment s) = unmet packet
link_left head route packet (LinkService interrupt link_dst link_src rest) = unmet packet
link_left head route packet (DataAck link_dst link_src acks) = unmet packet
link_left head route packet (OtherDataAck link_dst link_src rest) = unmet packet
link_left head route packet (ConnectAck link_dst) = unmet packet
link_left head route packet (NoOperation rest) = unmet packet
link_left head route packet (ConnectInitiate retransmitted link_src services info segsize user_data) = unmet packet
link_left head route packet (ConnectConfirm link_dst link_src services info segsize user_data) = unmet packet

-- A packet whose message was read, or not: by what the message is about at its sender, and where that is left out also at its receiver
abbrev pub message_left : Leaving → Side → Route → List ℕ → Result NspValue NspFault → List ℕ
message_left leaving sender route packet (Err fault) = carried_if leaving.unread_messages packet
message_left leaving sender route packet (Ok m) =
    if is_left leaving (at_sender sender (source_of m) (destination_of m)) then (
    if is_left leaving (at_receiver sender (source_of m) (destination_of m)) then unmet packet else link_left (head_of leaving sender) route packet m
    ) else packet

-- a packet that was read, or not; a routing control packet and one that is returned stay
abbrev pub packet_left_by : Leaving → Side → List ℕ → Result PacketValue PacketFault → List ℕ
packet_left_by leaving sender packet (Err fault) = carried_if leaving.unread_packets packet
packet_left_by leaving sender packet (Ok (Control bytes)) = packet
packet_left_by leaving sender packet (Ok (Data rtflg dst src forward nsp)) =
    if is_returned rtflg then packet else message_left leaving sender (route_of rtflg dst src forward) packet (nsp_at nsp)

-- what becomes of a packet that this side sent
abbrev pub packet_left : Leaving → Side → List ℕ → List ℕ
packet_left leaving sender packet = packet_left_by leaving sender packet (packet_at packet)

-- a DC that names both links
abbrev pub NamesBothLinks : NspValue → Type 0
NamesBothLinks m = (dst : ℕ) × (src : ℕ) × (reason : ℕ) × (m ≡ DisconnectConfirm dst src reason) × (dst ≢ 0) × (src ≢ 0)

-- what became of bytes, where it was made
abbrev pub or_same : List ℕ → Option (Vec ℕ) → List ℕ
or_same bytes (Some made) = made.items
or_same bytes None = bytes

-- ---- units

-- a unit that was read: a data message with what becomes of its packet, and its block checks made anew; all else stays
abbrev pub unit_left_by : Leaving → Side → List ℕ → ReadingValue → List ℕ
unit_left_by leaving sender unit (Sound (messages.Data flags resp num body)) =
    spelling (messages.Data flags resp num (packet_left leaving sender body))
unit_left_by leaving sender unit (Sound (messages.Ack flags resp)) = unit
unit_left_by leaving sender unit (Sound (messages.Nak flags reason resp)) = unit
unit_left_by leaving sender unit (Sound (messages.Rep flags num)) = unit
unit_left_by leaving sender unit (Sound (messages.Strt flags)) = unit
unit_left_by leaving sender unit (Sound (messages.Stack flags)) = unit
unit_left_by leaving sender unit HeaderBad = unit
unit_left_by leaving sender unit DataBad = unit
unit_left_by leaving sender unit (Malformed departure) = unit

-- what becomes of a unit that this side sent
abbrev pub unit_left : Leaving → Side → List ℕ → List ℕ
unit_left leaving sender unit = unit_left_by leaving sender unit (reading unit)
