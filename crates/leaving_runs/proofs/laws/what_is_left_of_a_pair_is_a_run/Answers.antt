use Rattle.leaving_runs.proofs.Whole.{pair_left}
use Rattle.leaving_runs.proofs.laws.what_is_left_of_a_pair_is_a_run.Goals as goal

pub returns : goal.returns
returns c = λ queues leaves head_a head_b of_a of_b fits_a fits_b records_a records_b run.
    pair_left queues leaves head_a head_b fits_a fits_b of_a of_b records_a records_b run
