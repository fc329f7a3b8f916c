use Rattle.std.proofs.Common.{◌≤◌, drop}
use Rattle.framer.specs.Given.{Passes}
use Rattle.framer.proofs.front.pass.Given as goal

abbrev pub invariant-loop-at : goal.invariant-loop-at
invariant-loop-at l = Passes l.bytes l.strays (drop l.at l.bytes) × (l.strays ≤ l.at)
