use Rattle.dna_links.proofs.Runs.Every.{in_step}
use Rattle.dna_links.proofs.run_laws.wire_links_see_right.Goals as goal

pub returns : goal.returns
returns c = record {
  of_a = λ queues node_a peer_a node_b peer_b w of_a of_b run. (in_step node_a peer_a node_b peer_b w of_a of_b queues run).0;
  of_b = λ queues node_a peer_a node_b peer_b w of_a of_b run. (in_step node_a peer_a node_b peer_b w of_a of_b queues run).1;
}
