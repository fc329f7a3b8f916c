use Rattle.dna_links.proofs.Runs.Wider.{new_led_to}
use Rattle.dna_links.proofs.run_laws.links_with_queues_do_as_much.Goals as goal

pub returns : goal.returns
returns c = λ node_a peer_a node_b peer_b w of_a of_b run. new_led_to node_a peer_a node_b peer_b w of_a of_b run
