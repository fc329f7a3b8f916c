-- What a right end can't have sent to an end in this state, whatever else happened: what is asked of a sound unit that comes, a row a kind of
-- message. Numbers in brackets are those of reasons, which are the other end's here.
use Rattle.std.specs.Prelude.{ℕ, Bool, true, ◌&&◌, ◌||◌, not, nat_le, if◌then◌else◌, Option, Some, None, List, [], ◌∷◌, length, Result, Ok, Err}
use Rattle.ddcmp_msg.specs.Message.{MessageValue, Data, Ack, Nak, Rep, Strt, Stack}
use Rattle.dna_packet.specs.declared.ack_word.AckWord.{AckWord}
use Rattle.dna_packet.specs.Nsp.{NspValue, DataSegment, DataAck}
use Rattle.dna_station.specs.declared.state.State.{State}
use Rattle.dna_station.specs.declared.state.State.TheVariants.{Running}
use Rattle.dna_station.specs.declared.refusal.StationRefusal.TheVariants.{WrongResponse}
use Rattle.dna_station.specs.declared.refusal.StepRefusal.{StepRefusal}
use Rattle.dna_station.specs.declared.refusal.StepRefusal.TheVariants.{Station as OfStation, Links as OfLinks}
use Rattle.dna_station.specs.declared.link_refusal.LinkRefusal.TheVariants.{WrongAck}
use Rattle.dna_station.specs.Book.{body_of}
use Rattle.dna_station.specs.WireStation.{StationVariables}
use Rattle.dna_station.specs.WireBook.{acknowledges}
use Rattle.dna_links.specs.declared.port.LinkTest.TheVariants.{ActedOn}
use Rattle.dna_links.specs.SegmentBook.{REACH, distance, is_of_data}
use Rattle.dna_links.specs.Links.{Carried, with_link}
use Rattle.dna_links.specs.WireSegments.{LinkVariables, WireSegments, acknowledged_by}
use Rattle.dna_links.specs.WireLinks.{WireLinks}
use Rattle.dna_node.specs.Content.{content}
use Rattle.dna_node.specs.WireLayers.{WireLayers}

-- ---- any unit, kept or not

-- in RUNNING a RESP is among A to N, else (8)
abbrev pub is_among : {L : Type 0} → StationVariables L → ℕ → Bool
is_among k resp = nat_le (acknowledges k resp) (length k.held)

abbrev pub wrong_response_in : {L : Type 0} → State → StationVariables L → ℕ → Option StepRefusal
wrong_response_in Running k resp = if is_among k resp then None else Some (OfStation WrongResponse)
wrong_response_in state k resp = None

abbrev pub wrong_response : {L : Type 0} → StationVariables L → ℕ → Option StepRefusal
wrong_response k resp = wrong_response_in k.state k resp

-- a packet is one that a circuit carries (15), and holds a message that can be read (17)
abbrev pub wrong_content : Result (Option Carried) StepRefusal → Option StepRefusal
wrong_content (Ok carried) = None
wrong_content (Err refusal) = Some refusal

abbrev pub or_else : Option StepRefusal → Option StepRefusal → Option StepRefusal
or_else None next = next
or_else (Some refusal) next = Some refusal

abbrev pub wrong_unit : WireLayers → MessageValue → Option StepRefusal
wrong_unit s (Data flags resp num body) = or_else (wrong_response s.station.variables resp) (wrong_content (content body))
wrong_unit s (Ack flags resp) = wrong_response s.station.variables resp
wrong_unit s (Nak flags reason resp) = wrong_response s.station.variables resp
wrong_unit s (Rep flags num) = None
wrong_unit s (Strt flags) = None
wrong_unit s (Stack flags) = None

-- asked of a station alone, which doesn't read packets
abbrev pub wrong_response_of : {L : Type 0} → StationVariables L → MessageValue → Option StepRefusal
wrong_response_of k (Data flags resp num body) = wrong_response k resp
wrong_response_of k (Ack flags resp) = wrong_response k resp
wrong_response_of k (Nak flags reason resp) = wrong_response k resp
wrong_response_of k (Rep flags num) = None
wrong_response_of k (Strt flags) = None
wrong_response_of k (Stack flags) = None

-- ---- a packet that is taken

-- An acknowledgement is at most the highest number given: at most as far above the acknowledged one as segments are outstanding; or it is an
-- earlier one, at most 2,047 below, and not below 0 as long as the highest given has not reached 2,047
abbrev pub may_acknowledge : (gave_many : Bool) → LinkVariables → ℕ → Bool
may_acknowledge gave_many k number =
    nat_le (distance k.acknowledged number) (length k.outstanding)
    || (nat_le (distance number k.acknowledged) REACH && (gave_many || nat_le (distance number k.acknowledged) k.acknowledged))

-- of each word of this subchannel, from where those before it left the acknowledged number
abbrev pub may_acknowledge_all : (gave_many : Bool) → List AckWord → LinkVariables → Bool
may_acknowledge_all gave_many [] k = true
may_acknowledge_all gave_many (word ∷ words) k =
    (not (is_of_data word.qualifier) || may_acknowledge gave_many k word.number)
    && may_acknowledge_all gave_many words (acknowledged_by k word)

-- else (21)
abbrev pub wrong_words : List AckWord → WireSegments → Option StepRefusal
wrong_words acks f = if may_acknowledge_all f.gave_many acks f.variables then None else Some (OfLinks WrongAck)

-- of the link that acts on the message, if one does
abbrev pub wrong_acks : (own far : ℕ) → List AckWord → WireLinks → Option StepRefusal
wrong_acks own far acks s = with_link (ActedOn own far) s None (λ number link. wrong_words acks link.segments)

abbrev pub wrong_message : WireLinks → NspValue → Option StepRefusal
wrong_message s (DataSegment segment) = wrong_acks segment.dstaddr segment.srcaddr segment.acks s
wrong_message s (DataAck dst src acks) = wrong_acks dst src acks s
wrong_message s m = None

-- a packet without a message of the links is not read further; one that can't be read was wrong before
abbrev pub wrong_carried : WireLinks → Result (Option Carried) StepRefusal → Option StepRefusal
wrong_carried s (Ok (Some packet)) = wrong_message s packet.message
wrong_carried s (Ok None) = None
wrong_carried s (Err refusal) = None

abbrev pub wrong_taken : WireLayers → MessageValue → Option StepRefusal
wrong_taken s m = wrong_carried s.links (content (body_of m))
