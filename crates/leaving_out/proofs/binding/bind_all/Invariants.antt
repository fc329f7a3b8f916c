use Rattle.std.proofs.Common.{◌≡◌, ◌++◌, List}
use Rattle.wire_base.specs.Tally.{tally_faults, tally_lent}
use Rattle.link_groups.specs.Groups.{AreGroupsOf, Binding}
use Rattle.capture_record.specs.declared.record.Record.{Record}
use Rattle.capture.specs.Lines.{to_come}
use Rattle.leaving_out.specs.About.{bindings_of}
use Rattle.leaving_out.proofs.Walk.{IsAt}
use Rattle.leaving_out.proofs.binding.bind_all.Given as goal

abbrev pub invariant-loop : goal.invariant-loop
invariant-loop g l =
    (rs : List Record)
    × IsAt (g.R.Read.remaining (tally_lent l.fn.reader)) l.capture (to_come l.capture.unread (g.R.Read.remaining (tally_lent l.reader))) l.counter rs
    × ((before : List Binding) → AreGroupsOf before l.fn.groups → AreGroupsOf (before ++ bindings_of l.side l.alone rs) l.groups)
    × (tally_faults l.reader ≡ tally_faults l.fn.reader)
