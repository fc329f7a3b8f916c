use Rattle.std.proofs.Common.{◌≡◌, [], take}
use Rattle.ladder.specs.Row.{joined_all}
use Rattle.ladder.proofs.drawn.joined_rows.Given as goal

abbrev pub invariant-loop-index : goal.invariant-loop-index
invariant-loop-index l = l.rows.items ≡ joined_all [] (take l.index l.order)
