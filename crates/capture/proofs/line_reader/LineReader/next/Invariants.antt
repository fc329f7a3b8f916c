use Rattle.std.proofs.Common.{suc, ◌-◌, length}
use Rattle.wire_base.specs.Tally.{tally_faults, tally_lent}
use Rattle.capture.specs.declared.limit.TheConstants.{MAX_LINE}
use Rattle.capture.specs.Lines.{to_come}
use Rattle.capture.proofs.SeekLaws.{Seeking}
use Rattle.capture.proofs.line_reader.LineReader.next.Given as goal

abbrev pub invariant-loop-len : goal.invariant-loop-len
invariant-loop-len g l =
    Seeking l.searched l.self.unread (to_come l.fn.self.unread (g.R.Read.remaining (tally_lent l.fn.reader)))
    (g.R.Read.remaining (tally_lent l.reader)) l.self.taken l.fn.self.taken (tally_faults l.reader) (tally_faults l.fn.reader)

abbrev pub decreases-loop-len : goal.decreases-loop-len
decreases-loop-len g l = suc MAX_LINE - length l.self.unread
