-- What is read of bytes consists of bytes: the packet of a unit, and the data of a segment in it.
use Rattle.std.proofs.Common.{◌≡◌, ℕ, Bool, true, false, cond, None, List, [], ◌∷◌, ◌++◌, Result, Ok, Err, refl, subst}
use Rattle.std.specs.Option.{IfSome}
use Rattle.std.proofs.lemmas.Bool.{and_parts}
use Rattle.ddcmp_msg.specs.Message.{MessageValue, Data}
use Rattle.ddcmp_msg.specs.Spelling.{IsRest}
use Rattle.ddcmp_msg.specs.Reading.{ReadingValue, reading, Sound}
use Rattle.dna_packet.specs.declared.fault.PacketFault.{PacketFault}
use Rattle.dna_packet.specs.declared.fault.NspFault.{NspFault}
use Rattle.dna_packet.specs.Fields.{word}
use Rattle.dna_packet.specs.AckWord.{ack_bytes}
use Rattle.dna_packet.specs.Packet.{PacketValue}
use Rattle.dna_packet.specs.Packet as packets
use Rattle.dna_packet.specs.Nsp.{NspValue, DataSegment, addresses, nsp_bytes, segnum}
use Rattle.dna_packet.specs.ReadingPacket.{packet_at}
use Rattle.dna_packet.specs.ReadingNsp.{nsp_at}
use Rattle.dna_packet.proofs.PacketLemmas.{packet_takes}
use Rattle.dna_packet.proofs.NspTakes.{nsp_takes}
use Rattle.dna_play.specs.HasLine.{are_bytes}
use Rattle.dna_station.specs.Book.{body_of}
use Rattle.dna_node.specs.Content.{is_returned, message_in, content_of}
use Rattle.dna_play.specs.Receipt.{carried_in, carried}
use Rattle.dna_play.proofs.Bytes.{bytes_told, first_part, second_part}
use Rattle.dna_play.proofs.Ends.DamagedUnits.{unit_of}

-- ---- a unit

rest_bytes : (m : MessageValue) (rest : List ℕ) → IsRest m rest → are_bytes rest ≡ true → are_bytes (body_of m) ≡ true
rest_bytes (Data flags resp num body) rest is e = first_part body (is.0 ∷ is.1 ∷ []) (subst (λ (bytes : List ℕ). are_bytes bytes ≡ true) is.2 e)
rest_bytes m rest is e = refl

pub body_bytes : (m : MessageValue) (unit : List ℕ) → are_bytes unit ≡ true → reading unit ≡ Sound m → are_bytes (body_of m) ≡ true
body_bytes m unit e read =
    let is = unit_of m unit e read in
    rest_bytes m is.rest is.rest_is (second_part is.head is.rest (subst (λ (bytes : List ℕ). are_bytes bytes ≡ true) is.whole e))

-- ---- a packet

abbrev pub SegmentBytes : NspValue → Type 0
SegmentBytes (DataSegment segment) = are_bytes segment.body ≡ true
SegmentBytes m = Unit {0}

segment_bytes : (m : NspValue) → are_bytes (nsp_bytes m) ≡ true → SegmentBytes m
segment_bytes (DataSegment s) e =
    second_part (word (segnum s.number s.bit_12)) s.body
    (second_part (ack_bytes s.acks) (word (segnum s.number s.bit_12) ++ s.body)
    (second_part (addresses s.dstaddr s.srcaddr) (ack_bytes s.acks ++ (word (segnum s.number s.bit_12) ++ s.body)) (and_parts _ _ e).1))
segment_bytes m e = tt

in_message : (dst src : ℕ) (nsp : List ℕ) (r : Result NspValue NspFault) → are_bytes nsp ≡ true → nsp_at nsp ≡ r →
    IfSome (carried_in (message_in dst src r)) SegmentBytes
in_message dst src nsp (Ok m) e read =
    segment_bytes m (subst (λ (bytes : List ℕ). are_bytes bytes ≡ true) (nsp_takes nsp m (bytes_told nsp e) read).1 e)
in_message dst src nsp (Err fault) e read = tt

in_data : (b : Bool) (dst src : ℕ) (nsp : List ℕ) → are_bytes nsp ≡ true →
    IfSome (carried_in (cond b (Ok None) (message_in dst src (nsp_at nsp)))) SegmentBytes
in_data true dst src nsp e = tt
in_data false dst src nsp e = in_message dst src nsp (nsp_at nsp) e refl

in_packet : (packet : List ℕ) (r : Result PacketValue PacketFault) → are_bytes packet ≡ true → packet_at packet ≡ r →
    IfSome (carried_in (content_of r)) SegmentBytes
in_packet packet (Ok (packets.Data rtflg dst src forward nsp)) e read =
    let whole = (packet_takes packet (packets.Data rtflg dst src forward nsp) (bytes_told packet e) read).1 in
    let all : are_bytes (rtflg ∷ (word dst ++ word src ++ forward ∷ nsp)) ≡ true = subst (λ (bytes : List ℕ). are_bytes bytes ≡ true) whole e in
    in_data (is_returned rtflg) dst src nsp (and_parts _ _
    (second_part (word src) (forward ∷ nsp) (second_part (word dst) (word src ++ forward ∷ nsp) (and_parts _ _ all).1))).1
in_packet packet r e read = tt

in_reading : (kept : Bool) (r : ReadingValue) (unit : List ℕ) → are_bytes unit ≡ true → reading unit ≡ r → IfSome (carried kept r) SegmentBytes
in_reading true (Sound m) unit e read = in_packet (body_of m) (packet_at (body_of m)) (body_bytes m unit e read) refl
in_reading kept r unit e read = tt

-- the message of the links in a unit that was kept
pub carried_bytes : (kept : Bool) (unit : List ℕ) → are_bytes unit ≡ true → IfSome (carried kept (reading unit)) SegmentBytes
carried_bytes kept unit e = in_reading kept (reading unit) unit e refl
