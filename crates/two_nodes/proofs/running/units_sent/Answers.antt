use Rattle.two_nodes.proofs.Closed.{sent_by_a, sent_by_b}
use Rattle.two_nodes.proofs.running.units_sent.Goals as goal

pub returns : goal.returns
returns g c = record {
  of_a = λ first_a first_b w xs ys run. sent_by_a g.N.TwoNodes.nodes g.N.TwoNodes.tells first_a first_b w xs ys run;
  of_b = λ first_a first_b w xs ys run. sent_by_b g.N.TwoNodes.nodes g.N.TwoNodes.tells first_a first_b w xs ys run;
}
