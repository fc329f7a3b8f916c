use Rattle.std.proofs.Common.{ap, sym, ◌∙◌, arith, refl}
use Rattle.wire_base.specs.Tally.{tally_lent}
use Rattle.capture.specs.Listed.{list_head_at}
use Rattle.capture.proofs.TakeLaws.{line_consumed, start_kept}
use Rattle.capture.proofs.ListedHead.{head_takes}
use Rattle.capture.proofs.ListedTake.{no_head}
use Rattle.capture.proofs.list_head.open_list.Goals as goal

pub returns-in-Some-clause-opens : goal.returns-in-Some-clause-opens
returns-in-Some-clause-opens g c =
    let found = rw c.in-Ok-Some.field-0-is at c.in-Ok-Some.ensures.found in
    let kept = start_kept c.in-Ok.lines.unread (g.R.Read.remaining (tally_lent c.args.reader.now)) _ c.in-Ok.ensures.1 found.3 in
    let start = c.in-Ok.ensures.0 in
    let same = c.in-Ok-Some.ensures.taken in
    let more = c.skip.ensures.taken in
    let read = ap (list_head_at c.args.first_words.now) (sym c.line.ensures) ∙ sym c.in-Some.ensures in
    let head = head_takes c.args.first_words.now _ c.in-Some.node_a c.in-Some.node_b read in
    let left = g.R.Read.remaining (tally_lent c.next.new.reader) in (
      head.a_fits,
      head.b_fits,
      omega arith,
      rw c.skip.ensures.unread (line_consumed c.next.new.self.unread c.in-Ok-Some.len _ left _ found.1 found.2 head.spelled kept),
    )

pub returns-in-Ok-Some-clause-opens : goal.returns-in-Ok-Some-clause-opens
returns-in-Ok-Some-clause-opens g c =
    let found = rw c.in-Ok-Some.field-0-is at c.in-Ok-Some.ensures.found in
    let kept = start_kept c.in-Ok.lines.unread (g.R.Read.remaining (tally_lent c.args.reader.now)) _ c.in-Ok.ensures.1 found.3 in
    let left = g.R.Read.remaining (tally_lent c.next.new.reader) in
    let none = ap (list_head_at c.args.first_words.now) (sym c.line.ensures) ∙ sym c.in-None.ensures in
    (refl, no_head c.args.first_words.now c.next.new.self.unread c.in-Ok-Some.len _ left found.1 found.2 kept none)
