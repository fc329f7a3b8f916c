use Rattle.dna_queues.proofs.Sound.{sound}
use Rattle.dna_queues.proofs.laws.nodes_with_queues_make_what_the_machine_accepts.Goals as goal

pub returns : goal.returns
returns c = λ node peer made small events by_machine. sound node peer made small events by_machine
