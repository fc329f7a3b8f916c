use Rattle.two_nodes.proofs.Order.{run-append, one_more_of_a, one_more_of_b}
use Rattle.two_nodes.proofs.running.reading_on.Goals as goal

pub returns : goal.returns
returns g c = record {
  of_a = λ start w half r made_a made_b run made. one_more_of_a g.N.TwoNodes.nodes r half run made;
  of_b = λ start w half r made_a made_b run made. one_more_of_b g.N.TwoNodes.nodes r half run made;
  joined = λ start mid end made_a next_a made_b next_b run next. run-append g.N.TwoNodes.nodes run next;
}
