-- The captures that a script stands for: both ends, and the units on both lines, over its steps.
use Rattle.std.specs.Prelude.{ℕ, Bool, true, false, if◌then◌else◌, List, [], ◌++◌, drop, Result}
use Rattle.std.specs.Result.{result_map_both}
use Rattle.wire_base.specs.declared.side.Side.{Side}
use Rattle.wire_base.specs.declared.side.Side.TheVariants.{A, B}
use Rattle.capture_record.specs.declared.record.Record.{Record}
use Rattle.dna_play.specs.Script.{StepValue, ScriptStep, Script, Deliver, Refuse, Drop, Lose, Damage}
use Rattle.dna_play.specs.Stop.{Stop, Stopped, plays_all}
use Rattle.dna_play.specs.StoredEnd.{StoredEnd, new_stored_end}
use Rattle.dna_play.specs.StoredPlay.{StoredStepped, stored_plays}

-- An end, and the units of the other end that neither came nor were lost, the oldest first
pub record StoredSide : Type 0 where
  pub end : StoredEnd
  pub coming : List (List ℕ)

pub record StoredPair : Type 0 where
  pub a : StoredSide
  pub b : StoredSide

-- ---- one step

-- whether it takes a unit off the line
abbrev pub is_of_line : StepValue → Bool
is_of_line Deliver = true
is_of_line Refuse = true
is_of_line Drop = true
is_of_line Lose = true
is_of_line (Damage place value) = true
is_of_line step = false

abbrev pub left_by : StepValue → List (List ℕ) → List (List ℕ)
left_by step coming = if is_of_line step then drop 1 coming else coming

-- what it makes of its own side, and of the other
abbrev pub after_own : StepValue → StoredStepped → StoredSide → StoredSide
after_own step made own = record { end = made.end; coming = left_by step own.coming }

abbrev pub after_other : StoredStepped → StoredSide → StoredSide
after_other made other = record other { coming = other.coming ++ made.sent }

abbrev pub pair_after : Side → StepValue → StoredStepped → StoredPair → StoredPair
pair_after A step made pair = record { a = after_own step made pair.a; b = after_other made pair.b }
pair_after B step made pair = record { a = after_other made pair.a; b = after_own step made pair.b }

abbrev pub own_side : Side → StoredPair → StoredSide
own_side A pair = pair.a
own_side B pair = pair.b

unfoldable pub stored_plays_step : StoredPair → ScriptStep → Result StoredStepped Stop
stored_plays_step pair step = let own = own_side step.side pair in stored_plays own.end own.coming step.step

-- ---- all steps

-- both sides, and the records of each so far
pub record StoredPlayed : Type 0 where
  pub pair : StoredPair
  pub of_a : List Record
  pub of_b : List Record

abbrev pub new_side : (node peer : ℕ) → StoredSide
new_side node peer = record { end = new_stored_end (record { own = node; peer = peer }); coming = [] }

abbrev pub new_pair : (node_a node_b : ℕ) → StoredPair
new_pair node_a node_b = record { a = new_side node_a node_b; b = new_side node_b node_a }

abbrev pub stored_not_begun : Script → StoredPlayed
stored_not_begun script = record { pair = new_pair script.node_a script.node_b; of_a = []; of_b = [] }

-- with what a step makes
abbrev pub played_after : StoredPlayed → Side → StepValue → StoredStepped → StoredPlayed
played_after so_far A step made = record so_far { pair = pair_after A step made so_far.pair; of_a = so_far.of_a ++ made.records }
played_after so_far B step made = record so_far { pair = pair_after B step made so_far.pair; of_b = so_far.of_b ++ made.records }

abbrev pub stored_plays_on : StoredPlayed → ScriptStep → Result StoredPlayed Stop
stored_plays_on so_far step = result_map_both (played_after so_far step.side step.step) (λ stop. stop) (stored_plays_step so_far.pair step)

-- the two captures of a script, or the first step that can't be made
abbrev pub stored_play : Script → Result StoredPlayed (Stopped StoredPlayed)
stored_play script = plays_all stored_plays_on 0 (stored_not_begun script) script.steps
