-- A node within the bounds, beside the other one, and what is made of it once it is cut, by what is made of it.
use Rattle.std.proofs.Common.{◌≡◌, ℕ, ◌≤◌, true, Option, Some, None, Result, Ok, length}
use Rattle.std.specs.Prelude.{slice_get}
use Rattle.two_nodes.specs.Nodes.{Half}
use Rattle.two_nodes.specs.Cutting.{cut_half}
use Rattle.ddcmp_msg.specs.Message.{MessageValue}
use Rattle.dna_station.specs.declared.refusal.StepRefusal.{StepRefusal}
use Rattle.dna_station.specs.Table.{SendPacket, change_of}
use Rattle.dna_links.specs.declared.queue.Queues.{Queues}
use Rattle.dna_node.specs.TagRules.{judged_by}
use Rattle.dna_station.specs.Station.{all_given}
use Rattle.dna_station.specs.Book.{Sound, body_of}
use Rattle.dna_station.specs.StationBook.{arrival_refusal}
use Rattle.dna_station.specs.Bounds.{IsBounded}
use Rattle.dna_links.specs.Bounds.{AreCutInStep}
use Rattle.dna_node.specs.Content.{content}
use Rattle.dna_node.specs.Layers.{Layers, LayersTruth, LayersNode, LayersUnit}
use Rattle.dna_node.specs.Layers.{layers_machine, stations}
use Rattle.dna_node.specs.WireLayers.{WireLayers, LayersTag}
use Rattle.dna_node.specs.WireLayers.{wire_layers_machine}
use Rattle.dna_node.specs.LayersPair.{side_of}
use Rattle.dna_node.specs.CutLayers.{cut_layers_by, cut_truth}
use Rattle.dna_station.proofs.Cut.Machines.{cut_result, cut_sent}
use Rattle.dna_node.proofs.LayersRead.{packet_in}

-- A unit that is kept: it has a packet, which is read as what was true of it at its first sending says, and that stands at its place, at or behind
-- the last place kept
pub record HasItsMessage (other : Half LayersNode LayersUnit) (front : ℕ) (unit : LayersUnit) : Type 0 where
  pub packet : change_of unit.message ≡ SendPacket
  pub read : content (body_of unit.message) ≡ Ok (packet_in unit.known.carried)
  pub ahead : front ≤ unit.known.station.place
  pub told : slice_get other.state.station.messages unit.known.station.place ≡ Some unit.known.carried

module _ (queues : Queues) where
  -- A node beside the other, where the last packets that they kept lie before these places
  pub record IsLayersBounded (own other : Half LayersNode LayersUnit) (front of_other : ℕ) : Type 0 where
    pub station : IsBounded (cut_half stations own) (cut_half stations other)
    pub counted : length own.state.station.messages ≡ length (all_given own.state.station.station)
    pub links : AreCutInStep queues (side_of own front) (side_of other of_other)
    pub kept : (hint : ℕ) (unit : LayersUnit) → slice_get other.sent hint ≡ Some unit → own.state.front ≤ hint →
        arrival_refusal (judged_by queues).periods own.state.station.station (Sound unit.message unit.known.station) true ≡ None →
        HasItsMessage other front unit

  -- what is made of the cut node, by what is made of the node
  abbrev pub layers_result : Result Layers StepRefusal → Result WireLayers StepRefusal
  layers_result o = cut_result (cut_layers_by queues) cut_truth (layers_machine (judged_by queues)) (wire_layers_machine (judged_by queues)) o

  abbrev pub layers_sent : MessageValue → Result (Layers × LayersTruth) StepRefusal → Result (WireLayers × LayersTag) StepRefusal
  layers_sent m o = cut_sent (cut_layers_by queues) cut_truth (layers_machine (judged_by queues)) (wire_layers_machine (judged_by queues)) m o
