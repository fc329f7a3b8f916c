-- What is left of a node over both layers, of the units that it sent, and of two nodes.
use Rattle.std.specs.Prelude.{map}
use Rattle.two_nodes.specs.Nodes.{Half, World}
use Rattle.two_nodes.specs.Cutting.{Cut, cut_half}
use Rattle.dna_node.specs.Layers.{Layers, LayersNode, LayersUnit}
use Rattle.dna_leaving.specs.LeftOut.{LeftOut}
use Rattle.dna_leaving.specs.Left.{Judged, links_left}
use Rattle.dna_leaving.specs.Worlds.{other_out, other_judged, message_left}
use Rattle.leaving_runs.specs.Stations.{Packets, with_body, bytes_left, station_left}

-- which own addresses of both ends are left out, and what becomes of packets, as one side sees it
pub record Leaves : Type 0 where
  pub out : LeftOut
  pub packets : Packets

abbrev pub other_leaves : Leaves → Leaves
other_leaves leaves = record { out = other_out leaves.out; packets = record { own = leaves.packets.far; far = leaves.packets.own } }

abbrev pub layers_left : Leaves → Judged → Layers → Layers
layers_left leaves judged s = record {
  station = station_left leaves.packets s.station;
  links = links_left judged s.links;
  messages = map (message_left leaves.out judged) s.messages;
}

abbrev pub node_left : Leaves → Judged → LayersNode → LayersNode
node_left leaves judged n = record { head = n.head; station = layers_left leaves judged n.station; front = n.front }

abbrev pub unit_left : Leaves → Judged → LayersUnit → LayersUnit
unit_left leaves judged unit = record {
  bytes = bytes_left leaves.packets.own unit.bytes;
  message = with_body leaves.packets.own unit.message;
  known = record { station = unit.known.station; carried = message_left leaves.out judged unit.known.carried };
}

abbrev pub nodes_left : Leaves → Judged → Cut LayersNode LayersUnit LayersNode LayersUnit
nodes_left leaves judged = record { of_state = node_left leaves judged; of_unit = unit_left leaves judged }

abbrev pub half_left : Leaves → Judged → Half LayersNode LayersUnit → Half LayersNode LayersUnit
half_left leaves judged own = cut_half (nodes_left leaves judged) own

-- of side a this is left out and judged, and of side b as its other end
abbrev pub world_left : Leaves → Judged → World LayersNode LayersUnit → World LayersNode LayersUnit
world_left leaves judged w = record { a = half_left leaves judged w.a; b = half_left (other_leaves leaves) (other_judged judged) w.b }
