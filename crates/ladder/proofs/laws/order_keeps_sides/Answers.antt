use Rattle.ladder.proofs.Orders.{keeps_sides}
use Rattle.ladder.proofs.laws.order_keeps_sides.Goals as goal

pub returns : goal.returns
returns c = keeps_sides
