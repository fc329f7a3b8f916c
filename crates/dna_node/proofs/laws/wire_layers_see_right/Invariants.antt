-- The nodes that the law of simulation is called for
use Rattle.capture_record.specs.declared.record.Record.{Record}
use Rattle.dna_station.specs.declared.refusal.StepRefusal.{StepRefusal}
use Rattle.dna_links.specs.declared.queue.Queues.TheVariants.{Without}
use Rattle.dna_node.specs.Layers.{LayersNode, LayersUnit}
use Rattle.dna_node.specs.LayersPair.{layers_pair}
use Rattle.dna_node.specs.WireLayers.{WireLayersNode, WireLayersUnit, wire_layers_pair}
use Rattle.dna_node.specs.CutLayers.{layers_seen}
use Rattle.dna_node.proofs.LayersBounds.{layers_property}
use Rattle.dna_node.proofs.laws.wire_layers_see_right.Given as goal

abbrev pub ghosts-simulation : goal.ghosts-simulation
ghosts-simulation a = record {
  State = LayersNode;
  SeenState = WireLayersNode;
  Record = Record;
  Sent = LayersUnit;
  SeenUnit = WireLayersUnit;
  Reason = StepRefusal;
  nodes = layers_pair;
  others = wire_layers_pair;
  cut = layers_seen;
  holds = layers_property Without;
}
