use Rattle.dna_node.proofs.AsMuch.Alone.{passes_with_queues}
use Rattle.dna_node.proofs.alone_laws.alone_with_queues_does_as_much.Goals as goal

pub returns : goal.returns
returns c = record { passes = passes_with_queues }
