-- What a wire node sees of the node over both layers: its station, with the tag of its message beside each packet; its links, as a node keeps them;
-- and of a unit the tags.
use Rattle.std.specs.Prelude.{ℕ, Option, Some, None, List, [], ◌∷◌, length, drop}
use Rattle.two_nodes.specs.Cutting.{Cut}
use Rattle.ddcmp_msg.specs.Message.{MessageValue}
use Rattle.dna_links.specs.declared.queue.Queues.{Queues}
use Rattle.dna_links.specs.declared.queue.Queues.TheVariants.{Without}
use Rattle.dna_links.specs.declared.tag.LinkTag.{LinkTag}
use Rattle.dna_station.specs.Table.{Change, SendPacket, change_of}
use Rattle.dna_station.specs.Station.{packets_of}
use Rattle.dna_station.specs.WireStation.{HeldPacket}
use Rattle.dna_station.specs.Cut.{cut}
use Rattle.dna_links.specs.CutLinks.{cut_links}
use Rattle.dna_links.specs.Runs.{SentMessage}
use Rattle.dna_node.specs.Layers.{Layers, LayersTruth, LayersNode, LayersUnit}
use Rattle.dna_node.specs.WireLayers.{WireLayers, LayersTag, WireLayersNode, WireLayersUnit, of_no_link}

-- the tag of a packet, by what was true of it when it was first sent
abbrev pub tag_of_packet : Option SentMessage → LinkTag
tag_of_packet None = of_no_link
tag_of_packet (Some message) = message.truth.tag

-- these packets, each with the tag of what is at its place
abbrev pub with_tags : List (List ℕ) → List (Option SentMessage) → List (HeldPacket LinkTag)
with_tags [] messages = []
with_tags (body ∷ packets) [] = record { body = body; label = None } ∷ with_tags packets []
with_tags (body ∷ packets) (carried ∷ messages) = record { body = body; label = Some (tag_of_packet carried) } ∷ with_tags packets messages

-- all packets given in the period, which come after those of the periods before
abbrev pub tagged_packets : Layers → List (HeldPacket LinkTag)
tagged_packets s = with_tags s.station.packets (drop (length (packets_of s.station.earlier)) s.messages)

abbrev pub cut_layers_by : Queues → Layers → WireLayers
cut_layers_by queues s = record { station = cut (tagged_packets s) s.station; links = cut_links queues s.links }

abbrev pub cut_layers : Layers → WireLayers
cut_layers s = cut_layers_by Without s

-- only a message with a packet has a tag of the links
abbrev pub tag_by : Change → Option SentMessage → Option LinkTag
tag_by SendPacket carried = Some (tag_of_packet carried)
tag_by change carried = None

abbrev pub cut_truth : MessageValue → LayersTruth → LayersTag
cut_truth m known = record { station = known.station.tag; link = tag_by (change_of m) known.carried }

abbrev pub cut_layers_node : Queues → LayersNode → WireLayersNode
cut_layers_node queues n = record { head = n.head; station = cut_layers_by queues n.station; front = n.front }

abbrev pub cut_layers_unit : LayersUnit → WireLayersUnit
cut_layers_unit unit = record { bytes = unit.bytes; message = unit.message; known = cut_truth unit.message unit.known }

-- what a wire node sees of the true one
abbrev pub layers_seen_by : Queues → Cut LayersNode LayersUnit WireLayersNode WireLayersUnit
layers_seen_by queues = record { of_state = cut_layers_node queues; of_unit = cut_layers_unit }

abbrev pub layers_seen : Cut LayersNode LayersUnit WireLayersNode WireLayersUnit
layers_seen = layers_seen_by Without
