use Rattle.dna_node.specs.Alone.{accused_of}
use Rattle.dna_node.proofs.Alone.BothLayers.{layers_see}
use Rattle.dna_node.proofs.Alone.Runs.{misses_nothing}
use Rattle.dna_node.proofs.alone_laws.alone_misses_nothing_of_its_own.Goals as goal

pub returns : goal.returns
returns c = record {
  offender = λ queues. misses_nothing (layers_see queues);
  named_of_a = λ queues head_a head_b of_a of_b place reason verdict seen.
      (accused_of (verdict.1).offender reason, misses_nothing (layers_see queues) head_a head_b of_a of_b place reason verdict.1 seen);
  named_of_b = λ queues head_a head_b of_a of_b place reason verdict seen.
      (accused_of (verdict.1).offender reason, misses_nothing (layers_see queues) head_b head_a of_b of_a place reason verdict.1 seen);
}
