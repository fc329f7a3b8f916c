use Rattle.std.proofs.Common.{◌≡◌, length}
use Rattle.wire_base.specs.Tally.{tally_lent}
use Rattle.capture.specs.Lines.{to_come}
use Rattle.capture.specs.SoFar.{IsReadSoFar, ToCome, so_far}
use Rattle.capture.specs.declared.phase.Phase.TheVariants.{Reading}
use Rattle.aligning.proofs.whole.read_whole.Given as goal

abbrev pub invariant-loop-number : goal.invariant-loop-number
invariant-loop-number g l =
    (l.capture.phase ≡ Reading) × (length l.records.items ≡ l.number) × (l.capture.records ≡ l.number)
    × IsReadSoFar (g.R.Read.remaining (tally_lent l.fn.reader)) (so_far l.capture.form l.capture.own l.capture.peer l.records.items
    (ToCome (to_come l.capture.unread (g.R.Read.remaining (tally_lent l.reader)))))
