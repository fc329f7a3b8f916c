use Rattle.dna_queues.proofs.WorkedSteps.{given_up_made}
use Rattle.dna_queues.proofs.laws.call_given_up_before_its_answer.Goals as goal

pub returns-clause-made : goal.returns-clause-made
returns-clause-made c = given_up_made
