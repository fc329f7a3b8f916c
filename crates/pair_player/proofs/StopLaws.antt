-- A step that can't be made, behind steps that start each side at most once, can't be made by ends with their nodes either, and goes by its rule.
use Rattle.std.proofs.Common.{◌≡◌, ℕ, List, Option, Result, Err, ap, subst, ◌∙◌}
use Rattle.capture.proofs.ListedSoFar.{one_more}
use Rattle.dna_play.specs.Script.{ScriptStep}
use Rattle.dna_play.specs.ScriptText.{IsScript, listed, script_form}
use Rattle.dna_play.specs.Stop.{Stop}
use Rattle.dna_play.specs.Played.{Played, made_by, plays_step}
use Rattle.dna_play.specs.PlayRun.{StartsOnce}
use Rattle.dna_play.specs.StepRule.{StepsByRule}
use Rattle.dna_play.specs.StoredPlayed.{StoredPlayed, stored_plays_step}
use Rattle.dna_play.proofs.Played.Ruled.{next_goes_by_rule}
use Rattle.pair_player.specs.Playing.{HasPlayed, Reached, StopsBehind}
use Rattle.pair_player.specs.Runs.{StopsByRule}
use Rattle.pair_player.specs.SoFar.{with_step}
use Rattle.pair_player.proofs.RunLaws.{of_truth}

-- what the end can't make, it can't make with its node
stops_too : (so_far : Played) (step : ScriptStep) (stop : Stop) → stored_plays_step so_far.ends.pair step ≡ Err stop →
    plays_step so_far step ≡ Err stop
unfolding plays_step
stops_too so_far step stop e = ap (made_by so_far step.side step.step) e

pub by_its_rule : (text : Option (List ℕ)) (r : Reached) (stop : Stop) (line : ℕ) → HasPlayed text r → StartsOnce r.script.steps →
    (s : StopsBehind stop line r) → StopsByRule r s.step stop
by_its_rule text r stop line h once s =
    let found = of_truth text r h once in
    let so_far : Played = found.0 in
    let read = h.read.fits in
    let fits : IsScript (with_step r.script s.step) =
    (one_more script_form text r.come s.later (listed r.script) s.step h.read s.few s.fits s.spelled).fits in
    let stops = stops_too so_far s.step stop (ap (λ (p : StoredPlayed). stored_plays_step p.pair s.step) found.1.keeps ∙ s.stops) in
    record {
      so_far = so_far;
      of_truth = found.1;
      stops = stops;
      rule = subst (λ (result : Result Played Stop). StepsByRule so_far.ends.pair s.step result) stops
          (next_goes_by_rule r.script s.step so_far fits found.1.makes once);
    }
