-- A run of two wire nodes over both layers, beside the run of the nodes on true numbers that it shows.
use Rattle.std.specs.Prelude.{List}
use Rattle.two_nodes.specs.Nodes.{World}
use Rattle.capture_record.specs.declared.record.Record.{Record}
use Rattle.dna_station.specs.declared.head.Head.{Head}
use Rattle.dna_station.specs.Seen.{IsSeenRun}
use Rattle.dna_links.specs.declared.queue.Queues.{Queues}
use Rattle.dna_links.specs.declared.queue.Queues.TheVariants.{Without}
use Rattle.dna_node.specs.LayersPair.{layers_pair_by, layers_start}
use Rattle.dna_node.specs.WireLayers.{WireLayersNode, WireLayersUnit, wire_layers_pair_by}
use Rattle.dna_node.specs.CutLayers.{layers_seen_by}

abbrev pub IsSeenLayersBy : Queues → (head_a head_b : Head) (end : World WireLayersNode WireLayersUnit) (of_a of_b : List Record) → Type 0
IsSeenLayersBy queues head_a head_b end of_a of_b =
    IsSeenRun (layers_pair_by queues) (wire_layers_pair_by queues) (layers_seen_by queues) (layers_start head_a head_b) end of_a of_b

abbrev pub IsSeenLayers : (head_a head_b : Head) (end : World WireLayersNode WireLayersUnit) (of_a of_b : List Record) → Type 0
IsSeenLayers head_a head_b end of_a of_b = IsSeenLayersBy Without head_a head_b end of_a of_b
