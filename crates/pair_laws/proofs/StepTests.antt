-- A step that goes by its rule is made, where that is kept and the step is not full.
use Rattle.std.proofs.Common.{◌≡◌, Result, Ok, Err, refl, subst}
use Rattle.wire_base.specs.declared.side.Side.{Side}
use Rattle.wire_base.specs.declared.side.Side.TheVariants.{B}
use Rattle.dna_play.specs.Script.{StepValue, ScriptStep}
use Rattle.dna_play.specs.Stop.{Stop, BadStep, Full}
use Rattle.dna_play.specs.StoredPlayed.{StoredPair}
use Rattle.dna_play.specs.Played.{Played, plays_step}
use Rattle.dna_play.specs.StepRule.{Asks, IsFull, StepsByRule}

-- what comes of a step of side b that has this value
pub of_b : (pair : StoredPair) (step : ScriptStep) (value : StepValue) (result : Result Played Stop) → step.side ≡ B → step.step ≡ value →
    StepsByRule pair step result → StepsByRule pair (record { side = B; step = value }) result
of_b pair step value result side is rule = subst (λ (x : StepValue). StepsByRule pair (record { side = B; step = x }) result) is
    (subst (λ (x : Side). StepsByRule pair (record { side = x; step = step.step }) result) side rule)

pub made_of_b : (so_far : Played) (step : ScriptStep) (value : StepValue) → step.side ≡ B → step.step ≡ value →
    Asks so_far.ends.pair.b.end so_far.ends.pair.b.coming value → ¬ (IsFull so_far.ends.pair.b.end value) →
    StepsByRule so_far.ends.pair step (plays_step so_far step) → (next : Played) × (plays_step so_far step ≡ Ok next)
made_of_b so_far step value side is asks room rule =
    go (plays_step so_far step) refl (of_b so_far.ends.pair step value (plays_step so_far step) side is rule)
  where
    go : (result : Result Played Stop) → plays_step so_far step ≡ result →
        StepsByRule so_far.ends.pair (record { side = B; step = value }) result → (next : Played) × (plays_step so_far step ≡ Ok next)
    go (Ok next) made kept = (next, made)
    go (Err BadStep) made broken = absurd (broken asks)
    go (Err Full) made full = absurd (room full.1)
