use Rattle.two_nodes.specs.Nodes.{exchanged, exchanged_world}
use Rattle.two_nodes.proofs.Order.{exchange}
use Rattle.two_nodes.proofs.Closed.{both_tell, exchange_run}
use Rattle.two_nodes.proofs.Blame.{no_run_of_refused}
use Rattle.two_nodes.proofs.Listed.{next_offends}
use Rattle.std.proofs.Common.{◌∷◌, ◌++◌}
use Rattle.two_nodes.proofs.blaming.refused_record.Goals as goal

pub returns : goal.returns
returns g c =
    let nodes = g.N.TwoNodes.nodes in
    let tells = g.N.TwoNodes.tells in
    record {
      a_offends = λ first_a first_b w r reason done_a rest_a done_b rest_b run refused. next_offends nodes tells first_a first_b w done_a done_b
          rest_a rest_b r reason run refused;
      b_offends = λ first_a first_b w r reason done_a rest_a done_b rest_b run refused.
          next_offends (exchanged nodes) (both_tell nodes tells) first_b first_a (exchanged_world w) done_b done_a rest_b rest_a r reason
          (exchange nodes run) refused;
      a_ends = λ start w r reason done_a rest_a done_b rest_b run refused whole. no_run_of_refused nodes start w done_a done_b rest_a rest_b r reason
          run refused whole;
      b_ends = λ start w r reason done_a rest_a done_b rest_b run refused whole.
          no_run_of_refused (exchanged nodes) (exchanged_world start) (exchanged_world w) done_b done_a rest_b rest_a r reason (exchange nodes run)
          refused
          (exchange_run nodes start (done_a ++ rest_a) (done_b ++ r ∷ rest_b) whole);
    }
