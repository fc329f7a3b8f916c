-- A run over both layers of nodes with queues, beside the same run of nodes without: what the queues leave open of the links is put aside.
use Rattle.std.specs.Prelude.{◌≡◌, List, length}
use Rattle.two_nodes.specs.Nodes.{Half, World, Run}
use Rattle.capture_record.specs.declared.record.Record.{Record}
use Rattle.dna_station.specs.declared.head.Head.{Head}
use Rattle.dna_links.specs.declared.queue.Queues.TheVariants.{With}
use Rattle.dna_links.specs.Captures.{deliveries}
use Rattle.dna_links.specs.Alike.{bare_links}
use Rattle.dna_node.specs.Layers.{Layers, LayersNode, LayersUnit}
use Rattle.dna_node.specs.LayersPair.{layers_pair_by, layers_start}

abbrev pub bare_layers : Layers → Layers
bare_layers s = record s { links = bare_links s.links }

abbrev pub bare_layers_half : Half LayersNode LayersUnit → Half LayersNode LayersUnit
bare_layers_half half = record { state = record half.state { station = bare_layers half.state.station }; sent = half.sent }

abbrev pub bare_layers_world : World LayersNode LayersUnit → World LayersNode LayersUnit
bare_layers_world w = record { a = bare_layers_half w.a; b = bare_layers_half w.b }

-- as many links began, and as many messages were delivered
pub record CountsAlike (own same : Layers) : Type 0 where
  pub links : length own.links.links ≡ length same.links.links
  pub delivered : deliveries own.links.links ≡ deliveries same.links.links

-- Nodes with queues make all of these records, and what they leave is this end except for what the queues leave open
pub record IsRunWithQueues (head_a head_b : Head) (end : World LayersNode LayersUnit) (of_a of_b : List Record) : Type 0 where
  pub left : World LayersNode LayersUnit
  pub run : Run (layers_pair_by With) (layers_start head_a head_b) of_a of_b left
  pub same : bare_layers_world left ≡ end
  pub counted_a : CountsAlike left.a.state.station end.a.state.station
  pub counted_b : CountsAlike left.b.state.station end.b.state.station
