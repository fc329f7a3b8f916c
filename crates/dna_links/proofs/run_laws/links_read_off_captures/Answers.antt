use Rattle.dna_links.proofs.Runs.Every.{read}
use Rattle.dna_links.proofs.run_laws.links_read_off_captures.Goals as goal

pub returns : goal.returns
returns c = record {
  of_a = λ queues node_a peer_a node_b peer_b w of_a of_b run. (read node_a peer_a node_b peer_b w of_a of_b queues run).0;
  of_b = λ queues node_a peer_a node_b peer_b w of_a of_b run. (read node_a peer_a node_b peer_b w of_a of_b queues run).1;
}
