-- What no right node puts into a data unit; None where nothing is said against it.
use Rattle.std.specs.Prelude.{ℕ, Bool, true, ◌&&◌, ◌||◌, not, ◌==◌, if◌then◌else◌, Option, Some, None, List, Result, Ok, Err}
use Rattle.std.specs.List.{list_all}
use Rattle.ddcmp_msg.specs.Reading.{reading}
use Rattle.dna_packet.specs.declared.ack_word.AckWord.{AckWord}
use Rattle.dna_packet.specs.Nsp.{NspValue, DataSegment, DataAck}
use Rattle.dna_station.specs.declared.head.Head.{Head}
use Rattle.dna_station.specs.declared.refusal.StepRefusal.{StepRefusal}
use Rattle.dna_station.specs.declared.refusal.StepRefusal.TheVariants as reason
use Rattle.dna_links.specs.Links.{Carried}
use Rattle.dna_links.specs.SegmentBook.{is_of_data}
use Rattle.dna_node.specs.Content.{content}
use Rattle.accusing_links.specs.declared.wrong.Wrong.{Wrong}
use Rattle.accusing_links.specs.declared.wrong.Wrong.TheVariants.{BadPacket, BadNsp, WrongNode, NoLink, WrongAck}
use Rattle.accusing_links.specs.Segments.{Shown, packet_in}
use Rattle.accusing_links.specs.Connects.{has_link}
use Rattle.accusing_links.specs.Heard.{Heard}

-- a message of the links goes from this node to the other one
abbrev pub goes_out : Head → Carried → Bool
goes_out head packet = packet.src == head.own && packet.dst == head.peer

-- a word acknowledges nothing yet, or a segment that passed; of the other subchannel nothing is asked
abbrev pub is_right_word : (ℕ → Bool) → AckWord → Bool
is_right_word passed word = not (is_of_data word.qualifier) || (word.number == 0 || passed word.number)

-- so do all words of a message: to the link with its SRCADDR, from that with its DSTADDR
abbrev pub are_right_words : Shown → NspValue → Bool
are_right_words passed (DataSegment s) = list_all (is_right_word (passed s.srcaddr s.dstaddr)) s.acks
are_right_words passed (DataAck dst src acks) = list_all (is_right_word (passed src dst)) acks
are_right_words passed m = true

abbrev pub wrong_of_link : Heard → NspValue → Option Wrong
wrong_of_link heard m =
    if has_link heard.connects m then (if are_right_words heard.segments m then None else Some WrongAck) else
    Some NoLink

abbrev pub wrong_message : Head → Heard → Carried → Option Wrong
wrong_message head heard packet = if goes_out head packet then wrong_of_link heard packet.message else Some WrongNode

abbrev pub wrong_content : Head → Heard → Result (Option Carried) StepRefusal → Option Wrong
wrong_content head heard (Ok None) = None
wrong_content head heard (Ok (Some packet)) = wrong_message head heard packet
wrong_content head heard (Err reason.BadPacket) = Some BadPacket
wrong_content head heard (Err reason) = Some BadNsp

abbrev pub wrong_in : Head → Heard → Option (List ℕ) → Option Wrong
wrong_in head heard None = None
wrong_in head heard (Some packet) = wrong_content head heard (content packet)

-- by what passed of the other side before it
abbrev pub wrong_unit : Head → Heard → List ℕ → Option Wrong
wrong_unit head heard unit = wrong_in head heard (packet_in (reading unit))
