use Rattle.dna_node.proofs.AsMuch.Layers.{runs_with_queues}
use Rattle.dna_node.proofs.laws.layers_with_queues_do_as_much.Goals as goal

pub returns : goal.returns
returns c = record {
  run = runs_with_queues;
  accepted = λ head_a head_b of_a of_b run. let r = runs_with_queues head_a head_b run.0 of_a of_b run.1 in (r.left, r.run);
}
