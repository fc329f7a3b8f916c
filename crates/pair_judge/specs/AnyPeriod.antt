-- Nodes that ask no period: each acts on what comes by its bytes, also on what belongs to an earlier start of the other station (13). Such nodes are
-- judged only where a pair was refused for that. A unit of another start is taken for one of this start, by its number modulo 256, so that no true
-- number can be told of it: the kind is the node as a program keeps it. To be believed is that this node, the wire node of a judged pair without
-- the rule on periods, is what is meant. Nothing is claimed of what is delivered: that may come of another start, twice or out of order.
use Rattle.std.specs.Prelude.{◌≢◌, List, length}
use Rattle.capture_record.specs.declared.record.Record.{Record}
use Rattle.dna_station.specs.declared.head.Head.{Head}
use Rattle.dna_station.specs.declared.tag.Tag.{Tag}
use Rattle.dna_station.specs.PeriodRule.{of_any_period}
use Rattle.dna_station.specs.WireStation.{WireStation, new_wire_station}
use Rattle.dna_station.specs.WireNode.{wire_machine}
use Rattle.dna_links.specs.declared.queue.Queues.{Queues}
use Rattle.dna_links.specs.declared.tag.LinkTag.{LinkTag}
use Rattle.dna_links.specs.Arriving.{of_partner}
use Rattle.dna_node.specs.Kind.{NodeKind}
use Rattle.dna_node.specs.TagRules.{Rules}
use Rattle.dna_node.specs.WireLayers.{WireLayers, LayersTag, new_wire_layers_node, wire_layers_machine}
use Rattle.pair_judge.specs.declared.reason.Reason.TheVariants.{CrossedPeriod}
use Rattle.pair_judge.specs.declared.verdict.Verdict.{Verdict}
use Rattle.pair_judge.specs.declared.verdict.Verdict.TheVariants.{Accepted, Refused}

-- what comes is taken of any period; partners of links are asked on (25)
abbrev pub any_period_by : Queues → Rules
any_period_by queues = record { periods = of_any_period; partners = of_partner; queues = queues }

-- both layers
abbrev pub layers_of_any_period : Queues → NodeKind
layers_of_any_period queues = record {
  Keeps = WireLayers;
  Knows = LayersTag;
  machine = wire_layers_machine (any_period_by queues);
  first = λ (head : Head). (new_wire_layers_node head).station;
  links = λ (s : WireLayers). length s.links.links;
  Delivered = λ (own other : WireLayers) (of_own of_other : List Record). Unit {0};
}

-- stations alone: a packet is any bytes and is not read, no packet has a label, and there are no links
abbrev pub stations_of_any_period : NodeKind
stations_of_any_period = record {
  Keeps = WireStation LinkTag;
  Knows = Tag;
  machine = wire_machine of_any_period;
  first = λ (head : Head). new_wire_station;
  links = λ (s : WireStation LinkTag). 0;
  Delivered = λ (own other : WireStation LinkTag) (of_own of_other : List Record). Unit {0};
}

-- no record is refused for 13
abbrev pub AsksNoPeriod : Verdict → Type 0
AsksNoPeriod (Accepted summary) = Unit {0}
AsksNoPeriod (Refused side place reason) = reason ≢ CrossedPeriod
