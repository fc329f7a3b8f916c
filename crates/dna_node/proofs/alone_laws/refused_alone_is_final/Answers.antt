use Rattle.dna_node.proofs.Alone.BothLayers.{layers_see}
use Rattle.dna_node.proofs.Alone.Runs.{passes_a, passes_b, final_of_a, final_of_b}
use Rattle.dna_node.proofs.alone_laws.refused_alone_is_final.Goals as goal

pub returns : goal.returns
returns c = record {
  a_passes = λ queues. passes_a (layers_see queues);
  b_passes = λ queues. passes_b (layers_see queues);
  of_a = λ queues. final_of_a (layers_see queues);
  of_b = λ queues. final_of_b (layers_see queues);
}
