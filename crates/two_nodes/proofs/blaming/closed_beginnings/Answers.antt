use Rattle.two_nodes.proofs.Closed.{closed_run}
use Rattle.two_nodes.proofs.Reached.{closed}
use Rattle.two_nodes.proofs.blaming.closed_beginnings.Goals as goal

pub returns : goal.returns
returns g c = record {
  run = λ first_a first_b xs ys i j run. closed_run g.N.TwoNodes.nodes g.N.TwoNodes.tells first_a first_b run.0 xs ys run.1 i j;
  closed = λ first_a first_b xs ys run. closed g.N.TwoNodes.nodes g.N.TwoNodes.tells first_a first_b run.1;
}
