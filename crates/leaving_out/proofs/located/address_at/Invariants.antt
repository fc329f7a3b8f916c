use Rattle.std.proofs.Common.{◌≡◌, ◌≤◌, List}
use Rattle.wire_base.specs.Tally.{tally_faults, tally_lent}
use Rattle.capture_record.specs.declared.record.Record.{Record}
use Rattle.capture.specs.Lines.{to_come}
use Rattle.leaving_out.proofs.Walk.{IsAt}
use Rattle.leaving_out.proofs.located.address_at.Given as goal

abbrev pub invariant-loop-count : goal.invariant-loop-count
invariant-loop-count g l =
    (rs : List Record)
    × IsAt (g.R.Read.remaining (tally_lent l.fn.reader)) l.capture (to_come l.capture.unread (g.R.Read.remaining (tally_lent l.reader))) l.count rs
    × (l.count ≤ l.place)
    × (tally_faults l.reader ≡ tally_faults l.fn.reader)
