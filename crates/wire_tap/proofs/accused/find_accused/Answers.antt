use Rattle.std.proofs.Common.{sym}
use Rattle.wire_base.specs.Tally.{tally_lent}
use Rattle.capture.specs.Lines.{to_come}
use Rattle.capture.specs.Listed.{no_items}
use Rattle.capture.proofs.ListedSoFar as read
use Rattle.wire_text.specs.WireText.{wire_form}
use Rattle.wire_tap.specs.Units.{passed_in}
use Rattle.wire_tap.specs.inner.Accused.{IsReading}
use Rattle.wire_tap.proofs.accused.find_accused.Goals as goal

pub returns-in-Ok-pass_all-clause-finds : goal.returns-in-Ok-pass_all-clause-finds
returns-in-Ok-pass_all-clause-finds g c =
    let opens = c.in-Ok.ensures.opens in
    let reader = c.in-Ok.reader in
    let text = g.W.Read.remaining (tally_lent c.args.wire.now) in
    let come = to_come reader.unread (g.W.Read.remaining (tally_lent c.open.new.reader)) in
    let begun : IsReading c.args.line_alone text reader.items come c.in-Ok-new.line = record {
      wire = no_items reader.node_a reader.node_b;
      read = read.opened wire_form text come reader.node_a reader.node_b opens.0 opens.1 opens.4;
      count = sym opens.2;
      behind = rw (c.node_a.ensures, c.node_b.ensures) at c.in-Ok-new.ensures;
    } in
    let all = c.in-Ok-pass_all.ensures c.args.line_alone text begun in
    let accused = c.accused.ensures.accused c.args.line_alone all.wire.node_a all.wire.node_b (passed_in all.wire.items) all.behind.told in
    (all.wire, all.come, all.read, all.end, accused)
