-- In every run over both layers each node is within the bounds beside the other.
use Rattle.std.proofs.Common.{◌≡◌, ℕ, ◌+◌, ◌≤◌, true, Some, None, List, map, refl, sym, ap, ◌∙◌, subst, option_map}
use Rattle.std.specs.Prelude.{slice_get}
use Rattle.std.proofs.lemmas.Option.{same_Some, slice_get-map}
use Rattle.two_nodes.specs.Nodes.{Half, World, stepped, advance, exchanged_world}
use Rattle.two_nodes.specs.Kept.{IsKept}
use Rattle.two_nodes.specs.Cutting.{Commutes, cut_half, cut_outcome}
use Rattle.ddcmp_msg.specs.Message.{MessageValue, Data}
use Rattle.capture_record.specs.declared.record.Record.{Record}
use Rattle.capture_record.specs.declared.fate.Fate.TheVariants.{Kept}
use Rattle.capture_record.specs.declared.record.Record.TheVariants.{Received}
use Rattle.dna_station.specs.declared.head.Head.{Head}
use Rattle.dna_station.specs.Table.{SendPacket, change_of}
use Rattle.dna_links.specs.declared.queue.Queues.{Queues}
use Rattle.dna_node.specs.TagRules.{judged_by}
use Rattle.dna_station.specs.Book.{Sound}
use Rattle.dna_station.specs.StationBook.{arrival_refusal, after_arrival}
use Rattle.dna_station.specs.Line.{SentUnit}
use Rattle.dna_station.specs.Node.{Node}
use Rattle.dna_node.specs.Layers.{LayersNode, LayersUnit, unit_of_station, stations}
use Rattle.dna_node.specs.LayersPair.{layers_pair_by}
use Rattle.dna_node.specs.WireLayers.{wire_layers_pair_by}
use Rattle.dna_node.specs.CutLayers.{layers_seen_by}
use Rattle.dna_station.proofs.Steps.Happens.{Itself, Receipt}
use Rattle.dna_station.proofs.Bounds.Numbers.{is_data}
use Rattle.dna_station.proofs.Bounds.Stations.{IsSound}
use Rattle.dna_station.proofs.Bounds.Runs.{sound_bounded}
use Rattle.dna_station.proofs.Delivery.Places.{AtPlaces}
use Rattle.dna_station.proofs.Delivery.Partnered.{Partnered}
use Rattle.dna_station.proofs.Delivery.PlacesInOrder.{ArePlaced, IsBehind, behind_left}
use Rattle.dna_node.proofs.Joined.{AreTold}
use Rattle.dna_links.proofs.Runs.Every.{in_step}
use Rattle.dna_node.proofs.LayersRead.{AreRead, body_read, LayersRead, read_exchanged, read_kept}
use Rattle.dna_node.proofs.CutLayersNode.{record_same}
use Rattle.dna_node.proofs.LayersBounded.{HasItsMessage, IsLayersBounded}

data_packet : (m : MessageValue) → is_data m ≡ true → change_of m ≡ SendPacket
data_packet (Data flags resp num body) d = refl
data_packet m d = absurd cc

module _ (queues : Queues) where
  module _ (own other : Half LayersNode LayersUnit)
      (sound : IsSound (cut_half stations own).state (cut_half stations own).sent (cut_half stations other).sent)
      (partnered : Partnered other.state.station.station (map unit_of_station other.sent))
      (placed : ArePlaced other.state.station.station (map unit_of_station other.sent))
      (places : AtPlaces other.state.station.station (map unit_of_station other.sent)) (told : AreTold other) (read : AreRead other) (front : ℕ)
      (behind : IsBehind own.state.station.station own.state.front (map unit_of_station other.sent) front) where
    -- what the station takes has its message
    has_its_message : (hint : ℕ) (unit : LayersUnit) → slice_get other.sent hint ≡ Some unit → own.state.front ≤ hint →
        arrival_refusal (judged_by queues).periods own.state.station.station (Sound unit.message unit.known.station) true ≡ None →
        HasItsMessage other front unit
    has_its_message hint unit there ahead allowed =
        let low_there : slice_get (map unit_of_station other.sent) hint ≡ Some (unit_of_station unit) =
        slice_get-map unit_of_station other.sent hint ∙ ap (option_map unit_of_station) there in
        let met : Node = record {
          head = own.state.head;
          station = after_arrival own.state.station.station (Sound unit.message unit.known.station) true;
          front = hint + 1;
        } in
        let l = behind_left (cut_half stations own) (cut_half stations other) sound partnered placed front behind
        (Received hint Kept unit.bytes) (stepped (cut_half stations own) met)
        (Receipt hint Kept unit.bytes (unit_of_station unit) (Sound unit.message unit.known.station) low_there ahead (Itself refl) allowed) in
        let same : l.0 ≡ unit_of_station unit = same_Some l.0 (unit_of_station unit) (sym (l.1).0 ∙ low_there) in
        let d : is_data unit.message ≡ true = ap (λ (x : SentUnit). is_data x.message) (sym same) ∙ (l.1).1 in
        let here = told.told hint unit there d in
        record {
          packet = data_packet unit.message d;
          read = body_read queues unit.message unit.known.station other.state.station.messages _ unit.known.carried read d
              (places hint (unit_of_station unit) low_there) here;
          ahead = subst (λ (x : SentUnit). front ≤ x.known.place) same l.2;
          told = here;
        }

  module _ (head_a head_b : Head) (w : World LayersNode LayersUnit) (of_a of_b : List Record) (c : LayersRead queues head_a head_b w of_a of_b) where
    pub a_bounded : IsLayersBounded queues w.a w.b c.joined.joined.front_a c.joined.joined.front_b
    a_bounded =
        let order = c.joined.placed.order in
        record {
          station = sound_bounded (cut_half stations w.a) (cut_half stations w.b) order.of_a.sound order.of_b.sound;
          counted = c.joined.a_told.counted;
          links = (in_step head_a.own head_a.peer head_b.own head_b.peer _ _ _ queues c.joined.joined.reached).0;
          kept =
              has_its_message w.a w.b order.of_a.sound order.of_b.order.partnered c.joined.placed.b_placed order.of_b.places c.joined.b_told c.b_read
              c.joined.joined.front_a c.joined.a_behind;
        }

  pub b_bounded : (head_a head_b : Head) (w : World LayersNode LayersUnit) (of_a of_b : List Record)
      (c : LayersRead queues head_a head_b w of_a of_b) →
      IsLayersBounded queues w.b w.a c.joined.joined.front_b c.joined.joined.front_a
  b_bounded head_a head_b w of_a of_b c =
      a_bounded head_b head_a (exchanged_world w) of_b of_a (read_exchanged queues head_a head_b w of_a of_b c)

  -- from the start of some heads
  abbrev pub layers_property : World LayersNode LayersUnit → List Record → List Record → Type 0
  layers_property w of_a of_b = (head_a : Head) × (head_b : Head) × LayersRead queues head_a head_b w of_a of_b

  pub layers_kept : IsKept (layers_pair_by queues) layers_property
  layers_kept = record {
    by_a = λ w made_a made_b r h c made. (c.0, c.1, (read_kept queues c.0 c.1).by_a w made_a made_b r h c.2 made);
    by_b = λ w made_a made_b r h c made. (c.0, c.1, (read_kept queues c.0 c.1).by_b w made_a made_b r h c.2 made);
  }

  pub a_same : (w : World LayersNode LayersUnit) (of_a of_b : List Record) → layers_property w of_a of_b → (r : Record) →
      advance (wire_layers_pair_by queues).node_a (cut_half (layers_seen_by queues) w.a) (cut_half (layers_seen_by queues) w.b) r ≡
      cut_outcome (layers_seen_by queues) (advance (layers_pair_by queues).node_a w.a w.b r)
  a_same w of_a of_b c r = record_same queues w.a w.b _ _ (a_bounded c.0 c.1 w of_a of_b c.2) r

  pub b_same : (w : World LayersNode LayersUnit) (of_a of_b : List Record) → layers_property w of_a of_b → (r : Record) →
      advance (wire_layers_pair_by queues).node_b (cut_half (layers_seen_by queues) w.b) (cut_half (layers_seen_by queues) w.a) r ≡
      cut_outcome (layers_seen_by queues) (advance (layers_pair_by queues).node_b w.b w.a r)
  b_same w of_a of_b c r = record_same queues w.b w.a _ _ (b_bounded c.0 c.1 w of_a of_b c.2) r

  pub layers_commute : Commutes (layers_pair_by queues) (wire_layers_pair_by queues) (layers_seen_by queues) layers_property
  layers_commute = record { of_a = λ w made_a made_b r c. a_same w made_a made_b c r; of_b = λ w made_a made_b r c. b_same w made_a made_b c r }
