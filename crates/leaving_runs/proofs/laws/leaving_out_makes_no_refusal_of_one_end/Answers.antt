use Rattle.leaving_runs.proofs.Alone.Whole.{program_left_alone}
use Rattle.leaving_runs.proofs.laws.leaving_out_makes_no_refusal_of_one_end.Goals as goal

pub returns : goal.returns
returns c = λ queues leaving head records knows knows_there is alike named passes.
    program_left_alone leaving queues head records knows knows_there is alike named passes
