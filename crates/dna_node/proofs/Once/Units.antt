-- What is known of a unit that a node of a run has sent: it reads as its message, and its packet as what the links first sent in it.
use Rattle.std.proofs.Common.{◌≡◌, ℕ, true, Some, Ok, ap, ◌∙◌, option_map, map}
use Rattle.std.specs.Prelude.{slice_get}
use Rattle.std.proofs.lemmas.Option.{slice_get-map}
use Rattle.two_nodes.specs.Nodes.{Half}
use Rattle.two_nodes.specs.Cutting.{cut_half}
use Rattle.ddcmp_msg.specs.Reading.{reading}
use Rattle.ddcmp_msg.specs.Reading as read_as
use Rattle.dna_station.specs.Book.{body_of}
use Rattle.dna_links.specs.declared.queue.Queues.TheVariants.{Without}
use Rattle.dna_node.specs.Content.{content}
use Rattle.dna_node.specs.Layers.{LayersNode, LayersUnit, unit_of_station, stations}
use Rattle.dna_station.proofs.Bounds.Numbers.{is_data}
use Rattle.dna_station.proofs.Bounds.Stations.{IsSound}
use Rattle.dna_station.proofs.Delivery.Places.{AtPlaces}
use Rattle.dna_node.proofs.Joined.{AreTold}
use Rattle.dna_node.proofs.LayersRead.{AreRead, packet_in, body_read}

module _ (own other : Half LayersNode LayersUnit)
    (sound : IsSound (cut_half stations own).state (cut_half stations own).sent (cut_half stations other).sent)
    (k : ℕ) (unit : LayersUnit) (there : slice_get own.sent k ≡ Some unit) where
  there_below : slice_get (map unit_of_station own.sent) k ≡ Some (unit_of_station unit)
  there_below = slice_get-map unit_of_station own.sent k ∙ ap (option_map unit_of_station) there

  pub unit_reads : reading unit.bytes ≡ read_as.Sound unit.message
  unit_reads = (sound.told k (unit_of_station unit) there_below).reads

  -- where its message stands among those of all packets, and what is read of its packet
  pub unit_content : AtPlaces own.state.station.station (map unit_of_station own.sent) → AreTold own → AreRead own → is_data unit.message ≡ true →
      content (body_of unit.message) ≡ Ok (packet_in unit.known.carried)
  unit_content places told read d =
      body_read Without unit.message unit.known.station own.state.station.messages _ unit.known.carried read d
      (places k (unit_of_station unit) there_below)
      (told.told k unit there d)
