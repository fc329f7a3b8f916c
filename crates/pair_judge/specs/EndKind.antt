-- What one end is judged as, without the other: a node over both layers, or a station alone.
use Rattle.std.specs.Prelude.{ℕ, List, length}
use Rattle.capture_record.specs.declared.record.Record.{Record}
use Rattle.dna_station.specs.declared.head.Head.{Head}
use Rattle.dna_station.specs.Machine.{NodeOf}
use Rattle.dna_station.specs.WireNode.{WireNode}
use Rattle.dna_station.specs.WireStation.{WireStation}
use Rattle.dna_links.specs.declared.queue.Queues.{Queues}
use Rattle.dna_links.specs.declared.queue.Queues.TheVariants.{Without}
use Rattle.dna_links.specs.declared.tag.LinkTag.{LinkTag}
use Rattle.dna_links.specs.WireLinks.{new_wire_links}
use Rattle.dna_node.specs.WireLayers.{WireLayers, WireLayersNode}
use Rattle.dna_node.specs.Alone.{EndingAlone, StepAlone, judged_alone_by, judged_station_alone, layers_end_by, station_end, step_alone}

-- A kind of end
pub record EndKind : Type 1 where
  -- what it keeps
  pub Keeps : Type 0
  -- what becomes of a record
  pub step : NodeOf Keeps → Record → StepAlone Keeps
  -- and of the capture with this head and these records
  pub judged : Head → List Record → EndingAlone Keeps
  -- how many links began at it
  pub links : Keeps → ℕ
  -- what is shown of both layers
  pub layers : NodeOf Keeps → WireLayers

abbrev pub layers_alone_by : Queues → EndKind
layers_alone_by queues = record {
  Keeps = WireLayers;
  step = step_alone (layers_end_by queues);
  judged = judged_alone_by queues;
  links = λ (s : WireLayers). length s.links.links;
  layers = λ (n : WireLayersNode). n.station;
}

abbrev pub layers_alone : EndKind
layers_alone = layers_alone_by Without

-- there are no links, and what is shown of them is what there is before any record
abbrev pub station_alone : EndKind
station_alone = record {
  Keeps = WireStation LinkTag;
  step = step_alone station_end;
  judged = judged_station_alone;
  links = λ (s : WireStation LinkTag). 0;
  layers = λ (n : WireNode LinkTag). record { station = n.station; links = new_wire_links n.head.own n.head.peer };
}
