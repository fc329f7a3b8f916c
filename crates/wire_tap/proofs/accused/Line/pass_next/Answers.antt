use Rattle.std.proofs.Common.{◌≡◌, ◌+◌, length, arith}
use Rattle.wire_base.specs.Tally.{tally_lent}
use Rattle.capture.specs.Lines.{to_come}
use Rattle.wire_tap.proofs.PieceLaws.{reads_on}
use Rattle.wire_tap.proofs.accused.Line.pass_next.Goals as goal

pub returns-in-Ok-clause-reads : goal.returns-in-Ok-clause-reads
returns-in-Ok-clause-reads g c line_alone text h =
    let advances = rw c.in-Ok-Some.field-0-is at c.in-Ok-Some.ensures.advances c.requires in
    let few = advances.1 in
    let more = advances.2 in
    let items = c.items.ensures in
    let added = c.saturating_add-line.ensures in
    let line_is : c.saturating_add-line.result ≡ length h.wire.items + 2 = omega (arith, h.count) in
    let behind = (rw c.bytes.ensures at c.in-Ok.ensures) line_alone h.wire.node_a h.wire.node_b h.wire.items line_is h.behind in
    reads_on line_alone text _ c.args.reader.now c.advance.new.self c.args.self.now c.pass.new.self c.in-Ok-Some.side
    (to_come c.advance.new.self.unread (g.W.Read.remaining (tally_lent c.advance.new.reader))) h advances behind
