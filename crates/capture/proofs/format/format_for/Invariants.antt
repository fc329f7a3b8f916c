-- The records after those that were looked at decide.
use Rattle.std.proofs.Common.{◌≡◌, drop}
use Rattle.capture.specs.Range.{format_for}
use Rattle.capture.proofs.format.format_for.Given as goal

abbrev pub invariant-loop-record : goal.invariant-loop-record
invariant-loop-record l = format_for l.records ≡ format_for (drop l.record-index l.records)
