use Rattle.dna_leaving.proofs.Runs.{run_is_left}
use Rattle.dna_leaving.proofs.laws.judged_message_is_of_judged_links.Goals as goal

pub returns-clause-of_a : goal.returns-clause-of_a
returns-clause-of_a c = λ queues out node_a peer_a node_b peer_b w of_a of_b run place unit bound_a bound_b there is.
    let u = (run_is_left queues out node_a peer_a node_b peer_b run bound_a bound_b).of_a_side.sent place unit there in (
      u.stays is,
      u.named
          (u.stays is),
    )

pub returns-clause-of_b : goal.returns-clause-of_b
returns-clause-of_b c = λ queues out node_a peer_a node_b peer_b w of_a of_b run place unit bound_a bound_b there is.
    let u = (run_is_left queues out node_a peer_a node_b peer_b run bound_a bound_b).of_b_side.sent place unit there in (
      u.stays is,
      u.named
          (u.stays is),
    )
