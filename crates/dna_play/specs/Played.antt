-- What ends with a node beside each make of a script. A node is one of a judge, on true numbers, except for the two rules that it alone asks; it
-- makes each record of its end, and a step whose record it can't make, or that would have no line in a capture, can't be made.
use Rattle.std.specs.Prelude.{if◌then◌else◌, Option, Some, None, option_map, option_and_then, ok_or, List, [], ◌∷◌, Result, Ok, Err}
use Rattle.two_nodes.specs.Nodes.{Answer, Half, World, Outcome, Made, advance}
use Rattle.wire_base.specs.declared.side.Side.{Side}
use Rattle.wire_base.specs.declared.side.Side.TheVariants.{A, B}
use Rattle.capture_record.specs.declared.record.Record.{Record}
use Rattle.dna_station.specs.declared.head.Head.{Head}
use Rattle.dna_station.specs.declared.refusal.StepRefusal.{StepRefusal}
use Rattle.dna_station.specs.Machine.{step}
use Rattle.dna_node.specs.TagRules.{by_bytes}
use Rattle.dna_node.specs.Layers.{LayersNode, LayersUnit, layers_machine}
use Rattle.dna_node.specs.LayersPair.{layers_start}
use Rattle.dna_play.specs.Script.{StepValue, ScriptStep, Script}
use Rattle.dna_play.specs.HasLine.{has_line}
use Rattle.dna_play.specs.Stop.{Stop, BadStep, Stopped, plays_all}
use Rattle.dna_play.specs.StoredPlay.{StoredStepped}
use Rattle.dna_play.specs.StoredPlayed.{StoredPlayed, stored_plays_step, played_after, stored_not_begun}

-- ---- the records of one end

-- what a node makes of a record
unfoldable pub end_step : LayersNode → Record → Answer LayersNode LayersUnit StepRefusal
end_step n r = step (layers_machine by_bytes) n r

abbrev pub made_half : Outcome LayersNode LayersUnit StepRefusal → Option (Half LayersNode LayersUnit)
made_half (Made half) = Some half
made_half outcome = None

-- a record that has a line, beside the other node
abbrev pub makes : (own other : Half LayersNode LayersUnit) → Record → Option (Half LayersNode LayersUnit)
makes own other r = if has_line r then made_half (advance end_step own other r) else None

-- one after another
abbrev pub makes_all : (own other : Half LayersNode LayersUnit) → List Record → Option (Half LayersNode LayersUnit)
makes_all own other [] = Some own
makes_all own other (r ∷ later) = option_and_then (λ next. makes_all next other later) (makes own other r)

-- ---- both ends

-- both ends with what is on both lines and their captures; and the nodes beside them, with all units that they ever sent
pub record Played : Type 0 where
  pub ends : StoredPlayed
  pub nodes : World LayersNode LayersUnit

-- the heads of the two captures
abbrev pub head_a : Script → Head
head_a script = record { own = script.node_a; peer = script.node_b }

abbrev pub head_b : Script → Head
head_b script = record { own = script.node_b; peer = script.node_a }

abbrev pub not_begun : Script → Played
not_begun script = record { ends = stored_not_begun script; nodes = layers_start (head_a script) (head_b script) }

-- the nodes after one end's step
abbrev pub by_node : World LayersNode LayersUnit → Side → List Record → Option (World LayersNode LayersUnit)
by_node nodes A records = option_map (λ (half : Half LayersNode LayersUnit). record nodes { a = half }) (makes_all nodes.a nodes.b records)
by_node nodes B records = option_map (λ (half : Half LayersNode LayersUnit). record nodes { b = half }) (makes_all nodes.b nodes.a records)

-- where they make the records of a step, too
abbrev pub made_by : Played → Side → StepValue → Result StoredStepped Stop → Result Played Stop
made_by so_far side step (Ok made) = ok_or (option_map (λ (nodes : World LayersNode LayersUnit).
    record { ends = played_after so_far.ends side step made; nodes = nodes }) (by_node so_far.nodes side made.records)) BadStep
made_by so_far side step (Err stop) = Err stop

unfoldable pub plays_step : Played → ScriptStep → Result Played Stop
plays_step so_far step = made_by so_far step.side step.step (stored_plays_step so_far.ends.pair step)

-- what both ends make with their nodes, or the first step that can't be made
abbrev pub play : Script → Result Played (Stopped Played)
play script = plays_all plays_step 0 (not_begun script) script.steps

-- the ends alone
abbrev pub ends_of : Result Played (Stopped Played) → Result StoredPlayed (Stopped StoredPlayed)
ends_of (Ok played) = Ok played.ends
ends_of (Err stopped) = Err (record { steps = stopped.steps; stop = stopped.stop; so_far = stopped.so_far.ends })
