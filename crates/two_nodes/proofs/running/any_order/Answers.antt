use Rattle.two_nodes.proofs.Order.{any_order, one_end}
use Rattle.two_nodes.proofs.running.any_order.Goals as goal

pub returns : goal.returns
returns g c = record {
  rest = λ start mid end done_a rest_a done_b rest_b early whole. any_order g.N.TwoNodes.nodes rest_a rest_b early whole;
  one_end = λ start end other xs ys first second. one_end g.N.TwoNodes.nodes first second;
}
