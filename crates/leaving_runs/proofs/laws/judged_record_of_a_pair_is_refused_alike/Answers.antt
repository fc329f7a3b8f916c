use Rattle.leaving_runs.proofs.WholeRefused.{program_refused_a, program_refused_b}
use Rattle.leaving_runs.proofs.laws.judged_record_of_a_pair_is_refused_alike.Goals as goal

pub returns-clause-of_a : goal.returns-clause-of_a
returns-clause-of_a c = λ queues leaving head_a head_b of_a of_b w knows_a knows_b records_a records_b alike_a alike_b run r is refusal alike
    here made.
    program_refused_a queues leaving head_a head_b of_a of_b w knows_a knows_b records_a records_b alike_a alike_b run r is refusal alike here made

pub returns-clause-of_b : goal.returns-clause-of_b
returns-clause-of_b c = λ queues leaving head_a head_b of_a of_b w knows_a knows_b records_a records_b alike_a alike_b run r is refusal alike
    here made.
    program_refused_b queues leaving head_a head_b of_a of_b w knows_a knows_b records_a records_b alike_a alike_b run r is refusal alike here made
