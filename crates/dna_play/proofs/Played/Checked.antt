-- What a script plays that starts each side at most once is a run of two captures, as a judge has it.
use Rattle.dna_play.proofs.Prelude.{◌≡◌, ℕ, ◌≤◌, List, take, Ok, Err, arith, Run, Record, layers_pair, layers_start, Script, Stopped, Played, play}
use Rattle.dna_play.proofs.Prelude.{StartsOnce, IsOrderly, is_checked_run}
use Rattle.dna_play.proofs.Played.Order.{InOrder}
use Rattle.dna_play.proofs.Played.Reached.{Progress, progress_of, whole_reached, stopped_reached}
use Rattle.dna_play.proofs.Played.Runs.{Going, first_head, second_head, reached_going}

pub orderly : {count most : ℕ} (records : List Record) → InOrder 0 count records most → count ≤ 1 → IsOrderly records
orderly records i few = let e = i.counted in record { few = omega arith; rise = i.rise }

abbrev pub IsCheckedRun : Progress → Played → Type 0
IsCheckedRun p played = Run layers_pair (layers_start (first_head p) (second_head p)) played.ends.of_a played.ends.of_b played.nodes

pub checked : (p : Progress) (played : Played) → Going p played → p.starts_a ≤ 1 → p.starts_b ≤ 1 → IsCheckedRun p played
checked p played g few_a few_b = is_checked_run (first_head p) (second_head p) played.ends.of_a played.ends.of_b g.made.run
    (orderly played.ends.of_a (g.order_a few_a) few_a) (orderly played.ends.of_b (g.order_b few_b) few_b)

module _ (script : Script) where
  pub whole_is_run : (played : Played) → play script ≡ Ok played → StartsOnce script.steps → IsCheckedRun (progress_of script script.steps) played
  whole_is_run played e once = checked _ played (reached_going (whole_reached script played e)) once.of_a once.of_b

  pub stopped_is_run : (stopped : Stopped Played) → play script ≡ Err stopped → StartsOnce (take stopped.steps script.steps) →
      IsCheckedRun (progress_of script (take stopped.steps script.steps)) stopped.so_far
  stopped_is_run stopped e once = checked _ stopped.so_far (reached_going (stopped_reached script stopped e).before) once.of_a once.of_b
