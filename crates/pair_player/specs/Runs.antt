-- What was played: its captures are a run of two nodes, and ends with a node on true numbers beside each make the same steps.
use Rattle.std.specs.Prelude.{◌≡◌, ℕ, List, Option, Ok, Err}
use Rattle.capture.specs.Range.{IsText}
use Rattle.dna_node.specs.LayersPair.{IsLayersRun}
use Rattle.dna_play.specs.Script.{ScriptStep}
use Rattle.dna_play.specs.Stop.{Stop}
use Rattle.dna_play.specs.Played.{Played, head_a, head_b, play, plays_step}
use Rattle.dna_play.specs.PlayRun.{StartsOnce}
use Rattle.dna_play.specs.StepRule.{StepsByRule}
use Rattle.pair_player.specs.Playing.{HasPlayed, Reached, text_a, text_b}

-- no step that is made starts a side that was started before
abbrev pub StartsOnceThroughout : Option (List ℕ) → Type 0
StartsOnceThroughout text = (r : Reached) → HasPlayed text r → StartsOnce r.script.steps

-- ---- the captures

-- the bytes that are written are texts of the captures
pub record AreTexts (r : Reached) : Type 0 where
  pub is_text_a : IsText r.script.node_a r.script.node_b r.played.of_a (text_a r)
  pub is_text_b : IsText r.script.node_b r.script.node_a r.played.of_b (text_b r)

-- their records are a run of two nodes as a judge has them, and the bytes that are written are their texts
pub record AreARun (r : Reached) : Type 0 where
  pub run : IsLayersRun (head_a r.script) (head_b r.script) r.played.of_a r.played.of_b
  pub is_text_a : IsText r.script.node_a r.script.node_b r.played.of_a (text_a r)
  pub is_text_b : IsText r.script.node_b r.script.node_a r.played.of_b (text_b r)

-- ---- with a node beside each end

-- ends with their nodes make the same steps
pub record IsOfTruth (r : Reached) (so_far : Played) : Type 0 where
  pub makes : play r.script ≡ Ok so_far
  pub keeps : so_far.ends ≡ r.played

-- after what they made, the next step stops them too, and its rule is why
pub record StopsByRule (r : Reached) (step : ScriptStep) (stop : Stop) : Type 0 where
  pub so_far : Played
  pub of_truth : IsOfTruth r so_far
  pub stops : plays_step so_far step ≡ Err stop
  pub rule : StepsByRule {X = Played} so_far.ends.pair step (Err stop)
