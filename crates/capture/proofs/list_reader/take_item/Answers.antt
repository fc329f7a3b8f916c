use Rattle.std.proofs.Common.{refl, sym, ◌∙◌, arith}
use Rattle.wire_base.specs.Tally.{tally_lent}
use Rattle.capture.proofs.TakeLaws.{line_consumed}
use Rattle.capture.proofs.ListedTake.{item_departs}
use Rattle.capture.proofs.list_reader.take_item.Goals as goal

pub returns-in-Ok-clause-takes : goal.returns-in-Ok-clause-takes
returns-in-Ok-clause-takes g c =
    let found = rw c.in-Ok-Some.field-0-is at c.in-Ok-Some.ensures.found in
    let same = c.in-Ok-Some.ensures.taken in
    let more = c.skip.ensures.taken in
    let lt = found.0 in
    let read = c.in-Ok.ensures.item in
    let left = g.R.Read.remaining (tally_lent c.next.new.reader) in (
      read.fits,
      omega arith,
      omega arith,
      rw c.skip.ensures.unread
          (line_consumed c.next.new.self.unread c.in-Ok-Some.len _ left _ found.1 found.2 (sym c.line.ensures ∙ read.spelled) found.3),
    )

pub returns-in-Err-clause-takes : goal.returns-in-Err-clause-takes
returns-in-Err-clause-takes g c =
    let found = rw c.in-Ok-Some.field-0-is at c.in-Ok-Some.ensures.found in
    let same = c.in-Ok-Some.ensures.taken in
    let head = c.requires.head in
    let lt = found.0 in
    let left = g.R.Read.remaining (tally_lent c.next.new.reader) in
    let departs =
    item_departs g.I.ListItem.form c.in-Err.kind c.next.new.self.unread c.in-Ok-Some.len c.args.lines.now.taken _ left (omega arith) head found.1
    found.2 found.3 (rw c.line.ensures at c.in-Err.ensures.departs) in
    ((rw c.taken-number.ensures refl, departs), same, tt)
