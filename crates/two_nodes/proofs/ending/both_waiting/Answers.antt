use Rattle.two_nodes.proofs.Ends.{waiting_both, stuck_no_run}
use Rattle.two_nodes.proofs.ending.both_waiting.Goals as goal

pub returns : goal.returns
returns g c = record {
  stuck = λ first_a first_b w r s done_a rest_a done_b rest_b run waits_a waits_b. waiting_both g.N.TwoNodes.nodes g.N.TwoNodes.tells first_a first_b
      w done_a done_b rest_a rest_b r s run waits_a waits_b;
  no_run = λ first_a first_b xs ys i j stuck. stuck_no_run g.N.TwoNodes.nodes g.N.TwoNodes.tells first_a first_b xs ys i j stuck;
}
