use Rattle.two_nodes.specs.Nodes.{exchanged}
use Rattle.two_nodes.proofs.Order.{exchange}
use Rattle.two_nodes.proofs.running.exchanged_sides.Goals as goal

pub returns : goal.returns
returns g c = record {
  there = λ start end xs ys run. exchange g.N.TwoNodes.nodes run;
  back = λ start end xs ys run. exchange (exchanged g.N.TwoNodes.nodes) run;
}
