-- The run of two captures over both layers, and what its links meet of it.
use Rattle.std.specs.Prelude.{ℕ, Option, Some, None, List, [], ◌∷◌, flat_map}
use Rattle.two_nodes.specs.Nodes.{Nodes, Half, World, start_world}
use Rattle.two_nodes.specs.Nodes as any
use Rattle.capture_record.specs.declared.record.Record.{Record}
use Rattle.capture_record.specs.declared.record.Record.TheVariants.{Sent, Received, Noise, User}
use Rattle.dna_station.specs.declared.head.Head.{Head}
use Rattle.dna_station.specs.declared.refusal.StepRefusal.{StepRefusal}
use Rattle.dna_node.specs.TagRules.{judged_by, by_bytes}
use Rattle.dna_station.specs.Machine.{pair_of}
use Rattle.dna_links.specs.declared.queue.Queues.{Queues}
use Rattle.dna_links.specs.declared.queue.Queues.TheVariants.{Without}
use Rattle.dna_links.specs.User.{LinkEventValue}
use Rattle.dna_links.specs.Runs.{LinkSide, LinkWorld, new_world, Reached}
use Rattle.dna_node.specs.Content.{link_event}
use Rattle.dna_node.specs.Layers.{LayersNode, LayersUnit, layers_machine, new_layers_node}

-- both nodes go by the rules that a judge asks
abbrev pub layers_pair_by : Queues → Nodes LayersNode Record LayersUnit StepRefusal
layers_pair_by queues = pair_of (layers_machine (judged_by queues))

abbrev pub layers_pair : Nodes LayersNode Record LayersUnit StepRefusal
layers_pair = layers_pair_by Without

-- both go by neither of them
abbrev pub bytes_pair : Nodes LayersNode Record LayersUnit StepRefusal
bytes_pair = pair_of (layers_machine by_bytes)

-- each node begins with its own head
abbrev pub layers_start : (head_a head_b : Head) → World LayersNode LayersUnit
layers_start head_a head_b = start_world (new_layers_node head_a) (new_layers_node head_b)

-- some order of all records of a and all of b, keeping the order of each, makes each of them
abbrev pub IsLayersRun : (head_a head_b : Head) → (of_a of_b : List Record) → Type 0
IsLayersRun head_a head_b of_a of_b = any.IsRun layers_pair (layers_start head_a head_b) of_a of_b

-- ---- what the links meet

abbrev pub one_or_none : Option LinkEventValue → List LinkEventValue
one_or_none None = []
one_or_none (Some event) = event ∷ []

abbrev pub link_event_in : Record → List LinkEventValue
link_event_in (User event) = one_or_none (link_event event)
link_event_in (Sent bytes) = []
link_event_in (Received hint fate bytes) = []
link_event_in (Noise bytes) = []

-- the events of a capture that are the links', in their order
abbrev pub link_events : List Record → List LinkEventValue
link_events records = flat_map link_event_in records

-- the links of a node with the messages of all packets that it ever first sent, where the last packet that it kept lies before this place
abbrev pub side_of : Half LayersNode LayersUnit → (front : ℕ) → LinkSide
side_of half front = record { links = half.state.station.links; sent = half.state.station.messages; front = front }

abbrev pub new_links_world : (head_a head_b : Head) → LinkWorld
new_links_world head_a head_b = new_world head_a.own head_a.peer head_b.own head_b.peer

-- The links of both sides, with the packets that went between them, are led to by steps of the links alone, for some places after the
-- last packets kept
pub record AreJoined (queues : Queues) (head_a head_b : Head) (w : World LayersNode LayersUnit) (of_a of_b : List Record) : Type 0 where
  pub front_a : ℕ
  pub front_b : ℕ
  pub reached : Reached queues (new_links_world head_a head_b) (record { a = side_of w.a front_a; b = side_of w.b front_b }) (link_events of_a)
      (link_events of_b)
