-- The run of the nodes beside both ends, and what an end keeps of its node.
use Rattle.std.specs.Prelude.{◌≡◌, ℕ, ◌+◌, ◌≤◌, List, [], ◌∷◌, map}
use Rattle.std.specs.List.{AllByRecursion, filter}
use Rattle.two_nodes.specs.Nodes.{Half, Run}
use Rattle.wire_base.specs.declared.side.Side.{Side}
use Rattle.wire_base.specs.declared.side.Side.TheVariants.{A, B}
use Rattle.capture_record.specs.Range.{IsRecord}
use Rattle.dna_station.specs.Cut.{cut}
use Rattle.dna_station.specs.WireNode.{unlabelled}
use Rattle.dna_links.specs.declared.port.Port.{Port}
use Rattle.dna_links.specs.LookUps.{is_live}
use Rattle.dna_links.specs.Links.{LinkOf}
use Rattle.dna_links.specs.TrueSegments.{TrueSegments}
use Rattle.dna_links.specs.WireSegments.{LinkVariables}
use Rattle.dna_links.specs.CutSegments as segments
use Rattle.dna_node.specs.Layers.{LayersNode, LayersUnit}
use Rattle.dna_node.specs.LayersPair.{bytes_pair, layers_start}
use Rattle.dna_play.specs.Script.{StepValue, ScriptStep, Script, Start, Boot}
use Rattle.dna_play.specs.NextSent.{LinkEnd}
use Rattle.dna_play.specs.StoredEnd.{StoredEnd}
use Rattle.dna_play.specs.Played.{Played, head_a, head_b}

-- The records so far are made by the two nodes, in some order, and each has a line
pub record ArePlayed (script : Script) (played : Played) : Type 0 where
  pub run : Run bytes_pair (layers_start (head_a script) (head_b script)) played.ends.of_a played.ends.of_b played.nodes
  pub lines_a : AllByRecursion IsRecord played.ends.of_a
  pub lines_b : AllByRecursion IsRecord played.ends.of_b

-- of a link: its port and what a node keeps of its segments
abbrev pub of_end : LinkEnd → Port × LinkVariables
of_end l = (l.port, l.variables)

abbrev pub of_link : LinkOf TrueSegments → Port × LinkVariables
of_link l = (l.port, (segments.cut l.segments).variables)

abbrev pub live_links : List (LinkOf TrueSegments) → List (LinkOf TrueSegments)
live_links links = filter (λ (l : LinkOf TrueSegments). is_live l.port.phase) links

-- An end keeps what its node keeps: the station variables, of packets without a label, and the links that live
pub record IsOfNode (e : StoredEnd) (half : Half LayersNode LayersUnit) : Type 0 where
  pub head : e.head ≡ half.state.head
  pub variables : e.station.variables ≡ (cut (unlabelled half.state.station.station.packets) half.state.station.station).variables
  pub links : map of_end e.links.links ≡ map of_link (live_links half.state.station.links.links)

pub record AreOfNodes (played : Played) : Type 0 where
  pub of_a : IsOfNode played.ends.pair.a.end played.nodes.a
  pub of_b : IsOfNode played.ends.pair.b.end played.nodes.b

-- how often a side is started by these steps; one that boots is begun anew, which counts as two
abbrev pub starts_now : StepValue → ℕ
starts_now Start = 1
starts_now Boot = 2
starts_now step = 0

abbrev pub starts_at : Side → Side → StepValue → ℕ
starts_at A A step = starts_now step
starts_at B B step = starts_now step
starts_at side other step = 0

abbrev pub starts_of : Side → List ScriptStep → ℕ
starts_of side [] = 0
starts_of side (step ∷ later) = starts_at side step.side step.step + starts_of side later

-- each side is started at most once, and none boots
pub record StartsOnce (steps : List ScriptStep) : Type 0 where
  pub of_a : starts_of A steps ≤ 1
  pub of_b : starts_of B steps ≤ 1
