use Rattle.pair_player.proofs.RunLaws.{of_truth, whole_of_truth}
use Rattle.pair_player.proofs.run_laws.answered_as_true_ends.Goals as goal

pub returns-clause-whole : goal.returns-clause-whole
returns-clause-whole c = whole_of_truth

pub returns-clause-made : goal.returns-clause-made
returns-clause-made c = of_truth
