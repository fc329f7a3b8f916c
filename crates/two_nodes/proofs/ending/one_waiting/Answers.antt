use Rattle.two_nodes.specs.Nodes.{exchanged, exchanged_world, start_world}
use Rattle.two_nodes.proofs.Order.{exchange}
use Rattle.two_nodes.proofs.Closed.{both_tell, exchange_run}
use Rattle.two_nodes.proofs.Ends.{waiting_one, lacks_no_run}
use Rattle.two_nodes.proofs.ending.one_waiting.Goals as goal

pub returns : goal.returns
returns g c =
    let nodes = g.N.TwoNodes.nodes in
    let tells = g.N.TwoNodes.tells in
    record {
      a_lacks = λ first_a first_b w r done_a rest_a ys run waits. waiting_one nodes tells first_a first_b w done_a ys rest_a r run waits;
      b_lacks = λ first_a first_b w r xs done_b rest_b run waits. waiting_one (exchanged nodes) (both_tell nodes tells) first_b first_a
          (exchanged_world w) done_b xs rest_b r (exchange nodes run) waits;
      a_ends = λ first_a first_b xs ys n lacks. lacks_no_run nodes tells first_a first_b xs ys n lacks;
      b_ends = λ first_a first_b xs ys n lacks run. lacks_no_run (exchanged nodes) (both_tell nodes tells) first_b first_a ys xs n lacks
          (exchange_run nodes (start_world first_a first_b) xs ys run);
    }
