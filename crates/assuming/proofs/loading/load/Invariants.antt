use Rattle.std.proofs.Common.{◌≡◌, ◌≤◌, List, length}
use Rattle.wire_base.specs.Tally.{tally_lent}
use Rattle.capture.specs.Lines.{to_come}
use Rattle.capture.specs.SoFar.{IsReadSoFar, ToCome, so_far}
use Rattle.capture.specs.declared.phase.Phase.TheVariants.{Reading}
use Rattle.capture_record.specs.declared.record.Record.{Record}
use Rattle.assuming.specs.inner.Spots.{AreOf}
use Rattle.assuming.proofs.loading.load.Given as goal

abbrev pub invariant-loop-number : goal.invariant-loop-number
invariant-loop-number g l =
    (l.reader.phase ≡ Reading) × (l.reader.records ≡ l.number) × (l.spots.units ≤ l.number) × (l.spots.kept ≤ l.number)
    × ((rs : List Record) × (length rs ≡ l.number) × AreOf rs l.spots
    × IsReadSoFar (g.R.Read.remaining (tally_lent l.fn.capture)) (so_far l.reader.form l.reader.own l.reader.peer rs
    (ToCome (to_come l.reader.unread (g.R.Read.remaining (tally_lent l.capture))))))
