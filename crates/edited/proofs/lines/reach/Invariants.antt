use Rattle.edited.specs.inner.Lines.{Reaches}
use Rattle.edited.proofs.lines.reach.Given as goal

abbrev pub invariant-loop-left : goal.invariant-loop-left
invariant-loop-left l = Reaches l.fn.lines l.bytes l.len l.left

abbrev pub decreases-loop-left : goal.decreases-loop-left
decreases-loop-left l = l.left
