-- What the links of a node meet of a record, and whether that is judged.
use Rattle.std.specs.Prelude.{◌≡◌, Bool, true, false, Option, Some, None, Result, Ok, Err, slice_get}
use Rattle.two_nodes.specs.Nodes.{Half}
use Rattle.ddcmp_msg.specs.Message.{MessageValue}
use Rattle.ddcmp_msg.specs.Reading.{ReadingValue, Sound, reading}
use Rattle.capture_record.specs.declared.event.Event.{Event}
use Rattle.capture_record.specs.declared.event.Event.TheVariants as events
use Rattle.capture_record.specs.declared.fate.Fate.{Fate}
use Rattle.capture_record.specs.declared.fate.Fate.TheVariants as fates
use Rattle.capture_record.specs.declared.record.Record.{Record}
use Rattle.capture_record.specs.declared.record.Record.TheVariants.{Sent, Received, Noise, User}
use Rattle.dna_station.specs.declared.refusal.StepRefusal.{StepRefusal}
use Rattle.dna_station.specs.Station.{Station}
use Rattle.dna_station.specs.Book.{body_of}
use Rattle.dna_station.specs.StationBook.{gives_number}
use Rattle.dna_links.specs.Links.{Carried}
use Rattle.dna_links.specs.User.{LinkEventValue}
use Rattle.dna_links.specs.TrueSegments.{Numbers}
use Rattle.dna_links.specs.Runs.{SentMessage}
use Rattle.dna_node.specs.Content.{content, link_event}
use Rattle.dna_node.specs.Layers.{LayersNode, LayersUnit}
use Rattle.dna_leaving.specs.Records.{LinkRecord, OfUser, Sends, Keeps, OfNoLink}
use Rattle.dna_leaving.specs.LeftOut.{LeftOut, source_of, destination_of, sent_out, is_out}

abbrev pub of_content : Result (Option Carried) StepRefusal → LinkRecord Numbers
of_content (Ok (Some packet)) = Sends packet
of_content (Ok None) = OfNoLink
of_content (Err refusal) = OfNoLink

abbrev pub of_link_event : Option LinkEventValue → LinkRecord Numbers
of_link_event (Some event) = OfUser event
of_link_event None = OfNoLink

abbrev pub of_event : Event → LinkRecord Numbers
of_event (events.Composed packet) = of_content (content packet)
of_event event = of_link_event (link_event event)

abbrev pub of_first : Bool → MessageValue → LinkRecord Numbers
of_first true m = of_content (content (body_of m))
of_first false m = OfNoLink

abbrev pub of_sent : Station → ReadingValue → LinkRecord Numbers
of_sent s (Sound m) = of_first (gives_number s m) m
of_sent s read = OfNoLink

abbrev pub of_carried : Fate → Option SentMessage → LinkRecord Numbers
of_carried fates.Kept (Some message) = Keeps message.packet message.truth
of_carried fates.Kept None = OfNoLink
of_carried fates.Dropped carried = OfNoLink
of_carried fates.NotKept carried = OfNoLink

abbrev pub of_unit : Fate → Option LayersUnit → LinkRecord Numbers
of_unit fate (Some unit) = of_carried fate unit.known.carried
of_unit fate None = OfNoLink

abbrev pub of_record : (own other : Half LayersNode LayersUnit) → Record → LinkRecord Numbers
of_record own other (Sent bytes) = of_sent own.state.station.station (reading bytes)
of_record own other (Received hint fate bytes) = of_unit fate (slice_get other.sent hint)
of_record own other (Noise bytes) = OfNoLink
of_record own other (User event) = of_event event

-- a message that is sent is judged by its own address alone
abbrev pub IsJudged : LeftOut → LinkRecord Numbers → Type 0
IsJudged out (Sends packet) = sent_out out (source_of packet.message) (destination_of packet.message) ≡ false
IsJudged out one = is_out out one ≡ false
