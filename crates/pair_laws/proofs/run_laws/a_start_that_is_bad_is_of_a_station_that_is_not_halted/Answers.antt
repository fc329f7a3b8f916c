use Rattle.std.proofs.Common.{Err}
use Rattle.dna_play.specs.Script.{Start}
use Rattle.dna_play.specs.Stop.{BadStep}
use Rattle.pair_laws.proofs.StepTests.{of_b}
use Rattle.pair_laws.proofs.run_laws.a_start_that_is_bad_is_of_a_station_that_is_not_halted.Goals as goal

pub returns : goal.returns
returns c = λ text r line h once stops b is.
    let stopped = c.stopped_by_its_rule.ensures text r BadStep line h once stops in
    (stopped.so_far, stopped.of_truth, of_b stopped.so_far.ends.pair stops.step Start (Err BadStep) b is stopped.rule)
