-- What a record alone tells of its step over both layers.
use Rattle.two_nodes.specs.Past.{BothTell}
use Rattle.dna_station.specs.inner.Tells.{machine_tells}
use Rattle.dna_node.specs.TagRules.{judged}
use Rattle.dna_node.specs.Layers.{layers_machine}
use Rattle.dna_node.specs.LayersPair.{layers_pair}
use Rattle.dna_node.specs.WireLayers.{wire_layers_machine, wire_layers_pair}

pub layers_tell : BothTell layers_pair
layers_tell = machine_tells (layers_machine judged)

pub wire_layers_tell : BothTell wire_layers_pair
wire_layers_tell = machine_tells (wire_layers_machine judged)
