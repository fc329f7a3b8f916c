use Rattle.std.proofs.Common.{length}
use Rattle.placing.specs.Placed.{Puts}
use Rattle.placing.proofs.waiting.Waiting.put_rest.Given as goal

abbrev pub invariant-loop-self : goal.invariant-loop-self
invariant-loop-self l = Puts l.fn.self l.self

abbrev pub decreases-loop-self : goal.decreases-loop-self
decreases-loop-self l = length l.self.units.own
