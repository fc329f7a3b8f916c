-- Which data segments this side sent, and which of them the other side acknowledged, and for how many data bytes it has room in a segment, by the
-- units that passed.
use Rattle.std.specs.Prelude.{ℕ, Bool, true, false, ◌&&◌, ◌||◌, ◌==◌, nat_le, Option, Some, None, List, [], ◌∷◌, Result, Ok, Err}
use Rattle.std.specs.List.{list_any}
use Rattle.ddcmp_msg.specs.Reading.{reading}
use Rattle.dna_packet.specs.declared.ack_word.AckWord.{AckWord}
use Rattle.dna_packet.specs.Nsp.{NspValue, DataSegment, DataAck, ConnectInitiate, ConnectConfirm}
use Rattle.dna_station.specs.declared.refusal.StepRefusal.{StepRefusal}
use Rattle.dna_links.specs.SegmentBook.{is_of_data}
use Rattle.dna_links.specs.Links.{Carried}
use Rattle.dna_node.specs.Content.{content}
use Rattle.accusing.specs.Placing.{Passed, Own, Other}
use Rattle.accusing_links.specs.Segments.{packet_in}

-- what is known of a link of this side (own) to one of the other (far): of a number, 0 to 4,095, a further one
abbrev pub Known : Type 0
Known = (own far number what : ℕ) → Bool

-- the same of a list
abbrev pub is_this : ℕ × ℕ × ℕ × ℕ → Known
is_this id own far number what = id.0 == own && (id.1 == far && (id.2 == number && id.3 == what))

abbrev pub has : List (ℕ × ℕ × ℕ × ℕ) → Known
has ids own far number what = list_any (λ (id : ℕ × ℕ × ℕ × ℕ). is_this id own far number what) ids

-- ---- of one message

abbrev pub bit : Bool → ℕ
bit true = 1
bit false = 0

-- a segment that this side sent, by its number and whether it ends a message
abbrev pub end_sent : NspValue → Known
end_sent (DataSegment s) own far number what = is_this (s.srcaddr, s.dstaddr, s.number, bit s.ends) own far number what
end_sent other own far number what = false

-- a number that a message of the other side acknowledges; nothing further is known of it
abbrev pub is_named : (number what : ℕ) → AckWord → Bool
is_named number what word = is_of_data word.qualifier && (word.number == number && 0 == what)

abbrev pub words_name : (dst src : ℕ) → List AckWord → Known
words_name dst src words own far number what = dst == own && (src == far && list_any (is_named number what) words)

abbrev pub acknowledges : NspValue → Known
acknowledges (DataSegment s) own far number what = words_name s.dstaddr s.srcaddr s.acks own far number what
acknowledges (DataAck dst src acks) own far number what = words_name dst src acks own far number what
acknowledges other own far number what = false

-- A CI or a CC from the link `far` to the link `own`, of a CI 0, has room for so many data bytes in a segment: its SEGSIZE. Nothing further is known
abbrev pub is_room : (own far segsize : ℕ) → Known
is_room own far segsize o f bytes what = own == o && (far == f && nat_le bytes segsize)

abbrev pub has_room : NspValue → Known
has_room (ConnectInitiate retransmitted src services info segsize user_data) own far bytes what = is_room 0 src segsize own far bytes what
has_room (ConnectConfirm dst src services info segsize user_data) own far bytes what = is_room dst src segsize own far bytes what
has_room other own far bytes what = false

-- ---- of the units that passed

-- the message of the links in a data unit; None where there is none that can be read
abbrev pub message_of : Result (Option Carried) StepRefusal → Option NspValue
message_of (Ok None) = None
message_of (Ok (Some packet)) = Some packet.message
message_of (Err refusal) = None

abbrev pub message_within : Option (List ℕ) → Option NspValue
message_within None = None
message_within (Some packet) = message_of (content packet)

abbrev pub message_in : List ℕ → Option NspValue
message_in unit = message_within (packet_in (reading unit))

module _ (says : NspValue → Known) where
  abbrev pub said : Option NspValue → Known
  said None own far number what = false
  said (Some message) own far number what = says message own far number what

  abbrev pub in_unit : List ℕ → Known
  in_unit unit own far number what = said (message_in unit) own far number what

  abbrev pub by_own : List Passed → Known
  by_own [] own far number what = false
  by_own (Own unit ∷ passed) own far number what = in_unit unit own far number what || by_own passed own far number what
  by_own (Other unit ∷ passed) own far number what = by_own passed own far number what

  abbrev pub by_other : List Passed → Known
  by_other [] own far number what = false
  by_other (Own unit ∷ passed) own far number what = by_other passed own far number what
  by_other (Other unit ∷ passed) own far number what = in_unit unit own far number what || by_other passed own far number what

pub record History : Type 0 where
  pub ends : Known
  pub words : Known
  pub rooms : Known

abbrev pub history : List Passed → History
history passed = record { ends = by_own end_sent passed; words = by_other acknowledges passed; rooms = by_other has_room passed }
