use Rattle.std.proofs.Common.{◌≡◌, take}
use Rattle.std.specs.List.{list_all}
use Rattle.ladder.specs.Order.{may_pass}
use Rattle.ladder.proofs.order.may_pass_all.Given as goal

abbrev pub invariant-loop-index : goal.invariant-loop-index
invariant-loop-index l = l.all ≡ list_all (may_pass l.row) (take l.index l.before)
