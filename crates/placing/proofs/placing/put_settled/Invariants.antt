use Rattle.placing.specs.Placed.{Puts}
use Rattle.placing.proofs.placing.put_settled.Given as goal

abbrev pub invariant-loop : goal.invariant-loop
invariant-loop l = Puts l.fn.waiting l.waiting
