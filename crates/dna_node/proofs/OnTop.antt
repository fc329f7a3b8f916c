-- What a record that is made does over both layers, as a relation: to its station, and to the links one of a few things.
use Rattle.std.proofs.Common.{◌≡◌, ℕ, ◌+◌, true, false, Option, Some, None, Ok, List}
use Rattle.std.specs.Prelude.{slice_get}
use Rattle.two_nodes.specs.Nodes.{Half, read, stepped, stepped_sending}
use Rattle.ddcmp_msg.specs.declared.nak_reason.NakReason.{NakReason}
use Rattle.ddcmp_msg.specs.Message.{MessageValue}
use Rattle.capture_record.specs.declared.fate.Fate.{Fate}
use Rattle.capture_record.specs.declared.fate.Fate.TheVariants as fates
use Rattle.capture_record.specs.Fates.{is_kept}
use Rattle.capture_record.specs.declared.record.Record.{Record}
use Rattle.capture_record.specs.declared.record.Record.TheVariants.{Sent, Received, Noise, User}
use Rattle.capture_record.specs.declared.event.Event.{Event}
use Rattle.capture_record.specs.declared.event.Event.TheVariants as events
use Rattle.dna_station.specs.declared.state.StationEvent.{StationEvent}
use Rattle.dna_station.specs.declared.state.StationEvent.TheVariants.{Halt}
use Rattle.dna_links.specs.declared.queue.Queues.{Queues}
use Rattle.dna_node.specs.TagRules.{Rules}
use Rattle.dna_station.specs.Station.{Station, after_event}
use Rattle.dna_station.specs.Truth.{Truth}
use Rattle.dna_station.specs.Book.{ArrivalValue, body_of}
use Rattle.dna_station.specs.StationBook.{station_book, after_sending, gives_number, truth_of, after_arrival}
use Rattle.dna_links.specs.Links.{Carried}
use Rattle.dna_links.specs.User.{LinkEventValue, Boot}
use Rattle.dna_links.specs.Sending as links_sending
use Rattle.dna_links.specs.TrueSegments.{TrueSegments, Numbers}
use Rattle.dna_links.specs.TrueLinks.{Links, links_user, links_sent, links_arrived}
use Rattle.dna_links.specs.Runs.{SentMessage}
use Rattle.dna_node.specs.Content.{content, link_event}
use Rattle.dna_node.specs.Layers.{Layers, LayersTruth, LayersNode, LayersUnit, first_sent}
use Rattle.dna_node.specs.Layers.{sends_again, to_station}
use Rattle.dna_station.proofs.Steps.Happens.{event_of}

-- what is read of a packet that is first sent, and what the links make of it
pub data FirstSent (queues : Queues) (links : Links) (body : List ℕ) : Links → Option SentMessage → Type 0 where
  NoMessage : content body ≡ Ok None → FirstSent queues links body links None
  Message : (packet : Carried) (made : links_sending.Sent TrueSegments Numbers) → content body ≡ Ok (Some packet) →
      links_sent queues links packet ≡ Ok made →
      FirstSent queues links body made.links (Some (record { packet = packet; truth = made.truth }))

-- and of a receipt, by what became of its packet
pub data IsMet (rules : Rules) (links : Links) (carried : Option SentMessage) : Fate → Links → Type 0 where
  NotKept : IsMet rules links carried fates.NotKept links
  LostAbove : IsMet rules links carried fates.Dropped links
  KeptNone : carried ≡ None → IsMet rules links carried fates.Kept links
  KeptOne : (message : SentMessage) (left : Links) → carried ≡ Some message →
      links_arrived rules.queues rules.partners links message.packet message.truth ≡ Ok left →
      IsMet rules links carried fates.Kept left

abbrev pub sent_by : Half LayersNode LayersUnit → MessageValue → Station × Truth
sent_by own m = (after_sending own.state.station.station m, truth_of own.state.station.station m)

abbrev pub sent_with : Half LayersNode LayersUnit → List ℕ → MessageValue → Layers × LayersTruth → Half LayersNode LayersUnit
sent_with own bytes m after = stepped_sending own (record own.state { station = after.0 }) (record { bytes = bytes; message = m; known = after.1 })

-- the half that a record leaves
pub data OnTop (rules : Rules) (own other : Half LayersNode LayersUnit) : Record → Half LayersNode LayersUnit → Type 0 where
  ByStation : (event : StationEvent) →
      OnTop rules own other (User (event_of event))
      (stepped own (record own.state { station = record own.state.station { station = after_event own.state.station.station event } }))
  ByLinks : (event : Event) (of_links : LinkEventValue) (links : Links) → link_event event ≡ Some of_links →
      links_user rules.queues own.state.station.links of_links ≡ Ok links →
      OnTop rules own other (User event) (stepped own (record own.state { station = record own.state.station { links = links } }))
  ByBoth : (links : Links) → links_user rules.queues own.state.station.links Boot ≡ Ok links →
      OnTop rules own other (User events.Boot)
      (stepped own (record own.state {
        station = record own.state.station { station = after_event own.state.station.station Halt; links = links };
      }))
  Composed : (body : List ℕ) (packet : Carried) (made : links_sending.Sent TrueSegments Numbers) →
      links_sent rules.queues own.state.station.links packet ≡ Ok made →
      OnTop rules own other (User (events.Composed body))
      (stepped own (record own.state { station = record own.state.station { links = made.links } }))
  Carries : (event : Event) → link_event event ≡ None → OnTop rules own other (User event) (stepped own own.state)
  Again : (bytes : List ℕ) (m : MessageValue) → gives_number own.state.station.station m ≡ false →
      OnTop rules own other (Sent bytes) (sent_with own bytes m (sends_again own.state.station m (sent_by own m)))
  First : (bytes : List ℕ) (m : MessageValue) → gives_number own.state.station.station m ≡ true → (links : Links) (carried : Option SentMessage) →
      FirstSent rules.queues own.state.station.links (body_of m) links carried →
      OnTop rules own other (Sent bytes) (sent_with own bytes m (first_sent own.state.station (sent_by own m) links carried))
  Receipt : (hint : ℕ) (fate : Fate) (bytes : List ℕ) (unit : LayersUnit) (arrival : ArrivalValue LayersTruth) →
      slice_get other.sent hint ≡ Some unit →
      (links : Links) → IsMet rules own.state.station.links unit.known.carried fate links →
      OnTop rules own other (Received hint fate bytes)
      (stepped own (record own.state {
        station = record own.state.station { station = after_arrival own.state.station.station (to_station arrival) (is_kept fate); links = links };
        front =
            hint + 1;
      }))
  Counted : (bytes : List ℕ) (reason : NakReason) →
      OnTop rules own other (Noise bytes)
      (stepped own (record own.state { station = record own.state.station { station = station_book.counts reason own.state.station.station } }))
  Unheard : (bytes : List ℕ) → OnTop rules own other (Noise bytes) (stepped own own.state)
