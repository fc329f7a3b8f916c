use Rattle.dna_queues.proofs.WorkedSteps.{waited_made, waited_by_machine}
use Rattle.dna_queues.proofs.laws.call_sent_after_it_was_given_up.Goals as goal

pub returns-clause-made : goal.returns-clause-made
returns-clause-made c = waited_made

pub returns-clause-by_machine : goal.returns-clause-by_machine
returns-clause-by_machine c = waited_by_machine
