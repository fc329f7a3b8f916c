use Rattle.leaving_runs.proofs.Whole.{program_left}
use Rattle.leaving_runs.proofs.laws.leaving_out_makes_no_refusal.Goals as goal

pub returns : goal.returns
returns c = λ queues leaving head_a head_b of_a of_b knows_a knows_b records_a records_b alike_a alike_b run.
    program_left queues leaving head_a head_b of_a of_b knows_a knows_b records_a records_b alike_a alike_b run
