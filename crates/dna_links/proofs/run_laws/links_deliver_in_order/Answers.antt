use Rattle.dna_links.proofs.Runs.Every.{delivers}
use Rattle.dna_links.proofs.run_laws.links_deliver_in_order.Goals as goal

pub returns : goal.returns
returns c = record {
  of_a = λ queues node_a peer_a node_b peer_b w of_a of_b run. (delivers node_a peer_a node_b peer_b w of_a of_b queues run).0;
  of_b = λ queues node_a peer_a node_b peer_b w of_a of_b run. (delivers node_a peer_a node_b peer_b w of_a of_b queues run).1;
}
