use Rattle.std.proofs.Common.{length}
use Rattle.ladder.proofs.Orders.{GoesOn}
use Rattle.ladder.proofs.order.in_order.Given as goal

abbrev pub invariant-loop-left : goal.invariant-loop-left
invariant-loop-left l = GoesOn l.initial.left.items l.order.items l.left.items

abbrev pub decreases-loop-left : goal.decreases-loop-left
decreases-loop-left l = length l.left.items
