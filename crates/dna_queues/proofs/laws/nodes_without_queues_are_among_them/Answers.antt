use Rattle.dna_queues.proofs.PlainRecords.{plain_made}
use Rattle.dna_queues.proofs.laws.nodes_without_queues_are_among_them.Goals as goal

pub returns : goal.returns
returns c = λ node peer made left e small. plain_made node peer made left e small
