-- What a judge takes both ends of a line for: nodes over both layers; or stations alone, to whom a packet is any bytes and the links' events are
-- nothing.
use Rattle.std.specs.Prelude.{ℕ, List, length}
use Rattle.two_nodes.specs.Nodes.{Nodes, World, start_world}
use Rattle.two_nodes.specs.Nodes as any
use Rattle.capture_record.specs.declared.record.Record.{Record}
use Rattle.dna_station.specs.declared.head.Head.{Head}
use Rattle.dna_station.specs.declared.refusal.StepRefusal.{StepRefusal}
use Rattle.dna_station.specs.PeriodRule.{of_period}
use Rattle.dna_station.specs.Line.{UnitOf}
use Rattle.dna_station.specs.Machine.{Machine, NodeOf, pair_of}
use Rattle.dna_station.specs.Station.{Station, new_station}
use Rattle.dna_station.specs.Truth.{Truth}
use Rattle.dna_station.specs.Node.{station_machine}
use Rattle.dna_station.specs.Offered.{Delivers}
use Rattle.dna_links.specs.Delivery.{DeliversLinks}
use Rattle.dna_links.specs.Captures.{AreUpFrom}
use Rattle.dna_links.specs.declared.queue.Queues.{Queues}
use Rattle.dna_links.specs.declared.queue.Queues.TheVariants.{Without}
use Rattle.dna_node.specs.TagRules.{judged_by}
use Rattle.dna_node.specs.Layers.{Layers, LayersTruth, layers_machine, new_layers_node}
use Rattle.dna_node.specs.LayersPair.{link_events}

-- A kind of node
pub record NodeKind : Type 1 where
  -- what it keeps, and what is known of each unit that it sends
  pub Keeps : Type 0
  pub Knows : Type 0
  -- what it makes of a record
  pub machine : Machine Keeps Knows
  -- before any record, with the addresses of its head
  pub first : Head → Keeps
  -- how many links began at it
  pub links : Keeps → ℕ
  -- what was delivered to it, beside the other node, with the captures of both
  pub Delivered : (own other : Keeps) → (of_own of_other : List Record) → Type 0

-- ---- two nodes of a kind

module _ (kind : NodeKind) where
  abbrev pub KindNode : Type 0
  KindNode = NodeOf kind.Keeps

  abbrev pub KindUnit : Type 0
  KindUnit = UnitOf kind.Knows

  abbrev pub kind_pair : Nodes KindNode Record KindUnit StepRefusal
  kind_pair = pair_of kind.machine

  abbrev pub first_node : Head → KindNode
  first_node head = record { head = head; station = kind.first head; front = 0 }

  -- each node begins with its own head
  abbrev pub kind_start : (head_a head_b : Head) → World KindNode KindUnit
  kind_start head_a head_b = start_world (first_node head_a) (first_node head_b)

  -- some order of all records of a and all of b, keeping the order of each, makes each of them
  abbrev pub IsRunOf : (head_a head_b : Head) → (of_a of_b : List Record) → Type 0
  IsRunOf head_a head_b of_a of_b = any.IsRun kind_pair (kind_start head_a head_b) of_a of_b

-- ---- both layers

-- What was delivered to a node, beside what was given and handed in at the other one
pub record HasDelivered (own other : Layers) (of_own of_other : List Record) : Type 0 where
  -- packets: in every period a beginning of what the partner period was offered, and over all periods in order among all of that
  pub packets : Delivers own.station of_own of_other
  -- messages: on every link a beginning of what was handed in at its partner, and nothing without a partner
  pub messages : DeliversLinks own.links other.links
  -- the same, read off the two captures
  pub captured : AreUpFrom (link_events of_own) (link_events of_other) own.links.links other.links.links

abbrev pub layers_kind : Queues → NodeKind
layers_kind queues = record {
  Keeps = Layers;
  Knows = LayersTruth;
  machine = layers_machine (judged_by queues);
  first = λ (head : Head). (new_layers_node head).station;
  links = λ (s : Layers). length s.links.links;
  Delivered = HasDelivered;
}

abbrev pub both_layers : NodeKind
both_layers = layers_kind Without

-- ---- stations alone

-- packets, as above; there are no links
abbrev pub HasDeliveredPackets : (own other : Station) (of_own of_other : List Record) → Type 0
HasDeliveredPackets own other of_own of_other = Delivers own of_own of_other

abbrev pub stations_alone : NodeKind
stations_alone = record {
  Keeps = Station;
  Knows = Truth;
  machine = station_machine of_period;
  first = λ (head : Head). new_station;
  links = λ (s : Station). 0;
  Delivered = HasDeliveredPackets;
}
