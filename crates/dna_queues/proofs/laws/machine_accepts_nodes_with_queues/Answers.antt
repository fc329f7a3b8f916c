use Rattle.dna_queues.proofs.Complete.{complete}
use Rattle.dna_queues.proofs.laws.machine_accepts_nodes_with_queues.Goals as goal

pub returns : goal.returns
returns c = λ node peer made near keep hidden. complete node peer made near keep hidden
