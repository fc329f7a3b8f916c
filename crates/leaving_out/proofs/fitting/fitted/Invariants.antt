use Rattle.std.proofs.Common.{◌≡◌, List}
use Rattle.wire_base.specs.Tally.{tally_faults, tally_lent}
use Rattle.capture.specs.declared.format.Format.TheVariants.{Three}
use Rattle.capture_record.specs.declared.record.Record.{Record}
use Rattle.capture.specs.Lines.{to_come}
use Rattle.capture.specs.Text.{capture_text}
use Rattle.leaving_out.specs.Fitted.{head_fitted, records_fitted}
use Rattle.leaving_out.proofs.Walk.{IsAt}
use Rattle.leaving_out.proofs.fitting.fitted.Given as goal

abbrev pub invariant-loop : goal.invariant-loop
invariant-loop g l =
    (rs : List Record)
    × IsAt (g.R.Read.remaining (tally_lent l.fn.reader)) l.capture (to_come l.capture.unread (g.R.Read.remaining (tally_lent l.reader))) l.counter rs
    × (l.text.items ≡ capture_text Three (head_fitted l.leaving l.kept l.side).own (head_fitted l.leaving l.kept l.side).peer
    (records_fitted l.leaving l.kept l.side rs))
    × (tally_faults l.reader ≡ tally_faults l.fn.reader)
