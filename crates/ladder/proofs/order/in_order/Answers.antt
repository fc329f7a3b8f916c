use Rattle.std.proofs.Common.{◌≤◌, ◌<◌, length, subst, arith}
use Rattle.ladder.proofs.Orders.{all_gone, one_gone, none_left}
use Rattle.ladder.proofs.order.in_order.Goals as goal

pub loop-left-preserved : goal.loop-left-preserved
loop-left-preserved c =
    let (row, first) = c.place_of_next-place.ensures.first in
    let below = subst (λ l. c.place_of_next-place.result < length l) c.deref.ensures.value c.place_of_next-place.ensures.within in
    one_gone c.args.told.items c.loop-left.order.items c.loop-left.left.items c.deref.result.now c.remove-row.new.self.items c.push.new.self.items
    c.place_of_next-place.result row c.remove-row.result c.deref.ensures.value first below c.remove-row.ensures.value c.remove-row.ensures.items
    c.in_ok-push.ensures.items c.loop-left.invariant

pub returns : goal.returns
returns c = all_gone c.args.told.items c.loop-left.order.items c.loop-left.left.items c.loop-left.invariant
    (none_left c.loop-left.left.items
    (omega (arith, subst (λ l. length l ≤ 0) c.as_slice.ensures.value c.loop-left-test.false)))
