use Rattle.dna_queues.proofs.WorkedSteps.{worked_made, worked_by_machine}
use Rattle.dna_queues.proofs.laws.acknowledgement_sent_after_the_end.Goals as goal

pub returns-clause-made : goal.returns-clause-made
returns-clause-made c = worked_made

pub returns-clause-by_machine : goal.returns-clause-by_machine
returns-clause-by_machine c = worked_by_machine
