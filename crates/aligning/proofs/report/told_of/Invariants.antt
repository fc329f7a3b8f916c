use Rattle.std.proofs.Common.{◌+◌, ◌≤◌, length}
use Rattle.aligning.proofs.report.told_of.Given as goal

abbrev pub invariant-loop-record : goal.invariant-loop-record
invariant-loop-record l = l.next + length l.rest ≤ length l.other + l.record-index
