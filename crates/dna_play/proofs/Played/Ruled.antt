-- In a script that starts each side at most once the next step goes by its rule, and the nodes make all that its end makes.
use Rattle.dna_play.proofs.Prelude.{◌≡◌, [], ◌∷◌, take, Result, Ok, Err, subst, arith, length-append, Side, A, B, All-behind, StepValue, ScriptStep}
use Rattle.dna_play.proofs.Prelude.{Script, IsStep, IsScript, Stop, BadStep, Full, Stopped, StoredStepped, stored_plays, own_side}
use Rattle.dna_play.proofs.Prelude.{stored_plays_step, Played, made_by, plays_step, play, StartsOnce, StepsByRule, StopsByRule, and_then}
use Rattle.dna_play.proofs.{Played.Steps.all_made, Played.Facts.TrueEnds, Played.Facts.played_of, EachElement.first_all, Stored.Right.IsRight}
use Rattle.dna_play.proofs.Played.Reached.{Progress, progress_of, exchanged_progress, exchanged, each_later, whole_reached, stopped_reached}
use Rattle.dna_play.proofs.Played.Stages.{Standing, standing_exchange, reached_standing, right_of_a}

-- ---- a step

-- with the nodes a step of a side goes by its rule too, and where it stops the end does
record FollowsAt (so_far : Played) (side : Side) (step : StepValue) (result : Result StoredStepped Stop) : Type 0 where
  ruled : StepsByRule so_far.ends.pair (record { side = side; step = step }) (made_by so_far side step result)
  stops : (stop : Stop) → made_by so_far side step result ≡ Err stop → result ≡ Err stop

-- the node of the end makes all that is made
module _ (both : TrueEnds) (step : StepValue) where
  follows_a : (result : Result StoredStepped Stop) → IsRight both.a both.b step result → FollowsAt (played_of both) A step result
  follows_a (Ok made) right = let all = all_made right.makes in
      record { ruled = rw all (right.asks, right.room); stops = λ stop is. let e = rw all at is in absurd cc }
  follows_a (Err BadStep) right = record { ruled = right; stops = λ stop e. cc }
  follows_a (Err Full) right = record { ruled = right; stops = λ stop e. cc }

  follows_b : (result : Result StoredStepped Stop) → IsRight both.b both.a step result → FollowsAt (played_of both) B step result
  follows_b (Ok made) right = let all = all_made right.makes in
      record { ruled = rw all (right.asks, right.room); stops = λ stop is. let e = rw all at is in absurd cc }
  follows_b (Err BadStep) right = record { ruled = right; stops = λ stop e. cc }
  follows_b (Err Full) right = record { ruled = right; stops = λ stop e. cc }

module _ (p : Progress) (so_far : Played) (s : Standing p so_far) (step : ScriptStep) (fits : IsStep step) where
  abbrev FollowsOf : Side → Played → Type 0
  FollowsOf side x = let own = own_side side x.ends.pair in FollowsAt x side step.step (stored_plays own.end own.coming step.step)

  next_follows : FollowsAt so_far step.side step.step (stored_plays_step so_far.ends.pair step)
  unfolding stored_plays_step
  next_follows = subst (FollowsOf step.side) s.stages.is (go step.side)
    where
      go : (side : Side) → FollowsOf side (played_of s.stages.both)
      go A = follows_a s.stages.both step.step _ (right_of_a p so_far s step fits)
      go B = follows_b s.stages.both step.step _ (right_of_a (exchanged_progress p) (exchanged so_far) (standing_exchange p so_far s) step fits)

  next_ruled : StepsByRule so_far.ends.pair step (plays_step so_far step)
  unfolding plays_step
  next_ruled = next_follows.ruled

  pub next_stops : (stop : Stop) → plays_step so_far step ≡ Err stop → stored_plays_step so_far.ends.pair step ≡ Err stop
  unfolding plays_step
  next_stops stop e = next_follows.stops stop e

-- ---- the laws

pub next_goes_by_rule : (script : Script) (step : ScriptStep) (so_far : Played) → IsScript (and_then script step) → play script ≡ Ok so_far →
    StartsOnce script.steps → StepsByRule so_far.ends.pair step (plays_step so_far step)
next_goes_by_rule script step so_far fits e once =
    let l = length-append script.steps (step ∷ []) in let few = fits.few in
    let first : IsScript script = record {
      node_a = fits.node_a;
      node_b = fits.node_b;
      each = first_all IsStep script.steps (step ∷ []) fits.each;
      few = omega arith;
    } in
    next_ruled (progress_of script script.steps) so_far (reached_standing script first (whole_reached script so_far e) once first.few) step
    (All-behind IsStep script.steps (step ∷ []) fits.each).0

pub stopped_by_rule : (script : Script) (stopped : Stopped Played) → IsScript script → play script ≡ Err stopped →
    StartsOnce (take stopped.steps script.steps) → StopsByRule script stopped
stopped_by_rule script stopped fits e once =
    let s = stopped_reached script stopped e in let less = s.few in let few = fits.few in let n = s.counted in
    record {
      step = s.step;
      there = s.there;
      rule = subst (λ (r : Result Played Stop). StepsByRule stopped.so_far.ends.pair s.step r) s.stops
          (next_ruled (progress_of script (take stopped.steps script.steps)) stopped.so_far
          (reached_standing script fits s.before once (omega arith)) s.step (each_later IsStep s.before fits.each).0);
    }
