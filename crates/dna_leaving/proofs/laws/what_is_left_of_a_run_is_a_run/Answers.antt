use Rattle.dna_leaving.proofs.Runs.{run_is_left}
use Rattle.dna_leaving.proofs.laws.what_is_left_of_a_run_is_a_run.Goals as goal

pub returns : goal.returns
returns c = λ queues out node_a peer_a node_b peer_b w of_a of_b run bound_a bound_b.
    (run_is_left queues out node_a peer_a node_b peer_b run bound_a bound_b).run
