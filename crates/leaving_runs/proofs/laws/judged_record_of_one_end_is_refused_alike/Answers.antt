use Rattle.leaving_runs.proofs.Alone.Whole.{program_refused_alone}
use Rattle.leaving_runs.proofs.laws.judged_record_of_one_end_is_refused_alike.Goals as goal

pub returns : goal.returns
returns c = λ queues leaving head records n knows knows_there are alike named passes r is r_alike r_named judged accused refusal refused.
    program_refused_alone leaving queues head records n knows knows_there are alike named passes r is r_alike r_named judged accused refusal refused
