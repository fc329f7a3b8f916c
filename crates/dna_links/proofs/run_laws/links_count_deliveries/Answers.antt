use Rattle.dna_links.proofs.Runs.Every.{counted}
use Rattle.dna_links.proofs.run_laws.links_count_deliveries.Goals as goal

pub returns : goal.returns
returns c = record {
  of_a = λ queues node_a peer_a node_b peer_b w of_a of_b run. (counted node_a peer_a node_b peer_b w of_a of_b queues run).0;
  of_b = λ queues node_a peer_a node_b peer_b w of_a of_b run. (counted node_a peer_a node_b peer_b w of_a of_b queues run).1;
}
