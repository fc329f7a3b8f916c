-- The captures that a script stands for have few records: at most two for each step, one of them a delivery of what an earlier step brought. So they
-- are never too long for their texts.
use Rattle.dna_play.proofs.Prelude.{◌≡◌, ℕ, ◌+◌, ◌*◌, ◌≤◌, List, length, Ok, Err, arith, length-append, MAX_RECORDS, StepValue, ScriptStep, Script}
use Rattle.dna_play.proofs.Prelude.{IsScript, Stopped, Played, play}
use Rattle.dna_play.proofs.{Links.Waiting.waiting, Played.Walk.stored_leaves}
use Rattle.dna_play.proofs.Played.Reached.{Reached, Progress, one_more, StepOfA, OfStep, reached_holds, each_step, whole_reached, stopped_reached}

-- the records of a side, with the pieces that wait there, are at most two for each step
record AreFew (p : Progress) (played : Played) : Type 0 where
  of_side_a : length played.ends.of_a + waiting played.ends.pair.a.end.links.links ≤ 2 * p.steps
  of_side_b : length played.ends.of_b + waiting played.ends.pair.b.end.links.links ≤ 2 * p.steps

few_more : (p : Progress) (so_far : Played) {next : Played} (step : StepValue) → StepOfA so_far step next → AreFew p so_far →
    AreFew (one_more step p) next
few_more p so_far step (OfStep made half is makes) h =
    let a = h.of_side_a in let b = h.of_side_b in
    let l = length-append so_far.ends.of_a made.records in
    let more = (stored_leaves so_far.ends.pair.a.end so_far.ends.pair.a.coming step made is).few in
    record { of_side_a = omega arith; of_side_b = omega arith }

abbrev HaveAtMost : ℕ → Played → Type 0
HaveAtMost most played = (length played.ends.of_a ≤ most) × (length played.ends.of_b ≤ most)

few_of_both : {script : Script} {first later : List ScriptStep} {so_far : Played} (most : ℕ) → length first ≤ most →
    Reached script first later so_far → HaveAtMost (2 * most) so_far
few_of_both {script} most less r =
    let h = reached_holds AreFew (λ p so_far h. record { of_side_a = h.of_side_b; of_side_b = h.of_side_a }) (λ step. Unit {0})
    (λ p so_far next step fits made h. few_more p so_far step.step made h) r (each_step script.steps)
    (record { of_side_a = omega arith; of_side_b = omega arith }) in
    let a = h.of_side_a in let b = h.of_side_b in (omega arith, omega arith)

-- ---- the laws

module _ (script : Script) where
  pub few_played : (played : Played) → play script ≡ Ok played → HaveAtMost (2 * length script.steps) played
  few_played played e = few_of_both (length script.steps) (omega arith) (whole_reached script played e)

  pub few_stopped : (stopped : Stopped Played) → play script ≡ Err stopped → HaveAtMost (2 * length script.steps) stopped.so_far
  few_stopped stopped e = let s = stopped_reached script stopped e in let l = s.few in let n = s.counted in
      few_of_both (length script.steps) (omega arith) s.before

  -- where the script has a text, each capture can have one
  pub fits_text : IsScript script → (played : Played) → HaveAtMost (2 * length script.steps) played → HaveAtMost MAX_RECORDS played
  fits_text fits played l = let few = fits.few in let a = l.0 in let b = l.1 in (omega arith, omega arith)
