use Rattle.std.proofs.Common.{◌≡◌, ◌+◌, ◌≤◌, length}
use Rattle.aligning.specs.Aligned.{first_fit}
use Rattle.aligning.proofs.choice.choose.Given as goal

abbrev pub invariant-loop-record : goal.invariant-loop-record
invariant-loop-record l =
    (first_fit l.received l.unit l.rest ≡ first_fit l.received l.next l.other)
    × (l.unit + length l.rest ≤ l.next + length l.other)
    × (length l.rest ≤ length l.other)

abbrev pub decreases-loop-record : goal.decreases-loop-record
decreases-loop-record l = length l.rest
