-- The run of two captures by their stations alone: two nodes, each over the records of its own capture, and the two lines that join them. What a
-- verdict speaks of is the run over both layers, in `LayersPair` of `dna_node`.
use Rattle.std.specs.Prelude.{List}
use Rattle.two_nodes.specs.Nodes.{Nodes, World, start_world}
use Rattle.two_nodes.specs.Nodes as any
use Rattle.capture_record.specs.declared.record.Record.{Record}
use Rattle.dna_station.specs.declared.head.Head.{Head}
use Rattle.dna_station.specs.declared.refusal.StepRefusal.{StepRefusal}
use Rattle.dna_station.specs.PeriodRule.{of_period}
use Rattle.dna_station.specs.Line.{SentUnit}
use Rattle.dna_station.specs.Machine.{pair_of}
use Rattle.dna_station.specs.Node.{Node, new_node, station_machine}

-- both nodes go by the rules that a judge asks
abbrev pub pair : Nodes Node Record SentUnit StepRefusal
pair = pair_of (station_machine of_period)

-- each node begins with its own head
abbrev pub start : (head_a head_b : Head) → World Node SentUnit
start head_a head_b = start_world (new_node head_a) (new_node head_b)

-- some order of all records of a and all of b, keeping the order of each, makes each of them
abbrev pub IsRun : (head_a head_b : Head) → (of_a of_b : List Record) → Type 0
IsRun head_a head_b of_a of_b = any.IsRun pair (start head_a head_b) of_a of_b
