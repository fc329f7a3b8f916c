-- What the judge of a pair over both layers sees of the nodes on true numbers.
use Rattle.dna_links.specs.declared.queue.Queues.{Queues}
use Rattle.dna_node.specs.Kind.{layers_kind}
use Rattle.dna_node.specs.CutLayers.{layers_seen_by}
use Rattle.dna_node.proofs.LayersRead.{start_read}
use Rattle.dna_node.proofs.LayersBounds.{layers_property, layers_kept, a_same}
use Rattle.dna_node.proofs.Alone.Layers.{layers_along}
use Rattle.dna_node.proofs.Alone.Right.{a_right}
use Rattle.dna_node.proofs.Alone.Runs.{SeesRight}

abbrev pub layers_see : (queues : Queues) → SeesRight (layers_along queues) (layers_kind queues)
layers_see queues = record {
  seen = layers_seen_by queues;
  holds = layers_property queues;
  begins = λ head_a head_b. (head_a, head_b, start_read queues head_a head_b);
  kept = layers_kept queues;
  same = a_same queues;
  right = λ w of_a of_b c. a_right queues c.0 c.1 w of_a of_b c.2;
}
