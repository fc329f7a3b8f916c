use Rattle.dna_leaving.proofs.Prelude.{other_out, other_judged, judged_of_run}
use Rattle.dna_leaving.proofs.Runs.{run_is_left, refused_next}
use Rattle.dna_leaving.proofs.laws.next_record_is_refused_alike.Goals as goal

pub returns-clause-of_a : goal.returns-clause-of_a
returns-clause-of_a c = λ queues out node_a peer_a node_b peer_b w of_a of_b run one refusal bound_a bound_b may is refused.
    let sides = run_is_left queues out node_a peer_a node_b peer_b run bound_a bound_b in
    refused_next queues out (judged_of_run out run) w.a w.b sides.of_a_side sides.of_b_side one may is refusal refused

pub returns-clause-of_b : goal.returns-clause-of_b
returns-clause-of_b c = λ queues out node_a peer_a node_b peer_b w of_a of_b run one refusal bound_a bound_b may is refused.
    let sides = run_is_left queues out node_a peer_a node_b peer_b run bound_a bound_b in
    refused_next queues (other_out out) (other_judged (judged_of_run out run)) w.b w.a sides.of_b_side sides.of_a_side one may is refusal refused
