use Rattle.std.proofs.Common.{◌≡◌, Ok, refl, sym, ap, subst, ◌∙◌}
use Rattle.wire_base.specs.Tally.{tally_lent}
use Rattle.capture.specs.Reader.{CaptureState, Opens, OpensPart}
use Rattle.capture.specs.Reading.{head_at, part_head_at}
use Rattle.capture.specs.inner.Captured.{state_at}
use Rattle.capture.specs.declared.hint.HintForm.TheVariants.{Part}
use Rattle.capture.proofs.HeadLaws.{head_takes}
use Rattle.capture.proofs.PartHead.{part_head_takes}
use Rattle.capture.proofs.TakeLaws.{line_consumed, no_head, start_kept}
use Rattle.capture.proofs.opening.open_either.Goals as goal

pub returns-in-Ok-behind_head-clause-opens : goal.returns-in-Ok-behind_head-clause-opens
returns-in-Ok-behind_head-clause-opens g c =
    let found = rw c.in-Ok-Some.field-0-is at c.in-Ok-Some.ensures.found in
    let before = g.R.Read.remaining (tally_lent c.args.reader.now) in
    let kept = start_kept c.in-Ok.lines.unread before _ c.in-Ok.ensures.1 found.3 in
    let head = head_takes _ c.in-Some.format c.in-Some.own c.in-Some.peer (ap head_at (sym c.line.ensures) ∙ sym c.in-Some.ensures) in
    let left = g.R.Read.remaining (tally_lent c.next.new.reader) in
    let state : c.in-Ok-behind_head.capture ≡ state_at c.in-Some.own c.in-Some.peer c.first_form.result c.skip.new.self =
    rw c.in-Ok-behind_head.is at c.behind_head.ensures in
    subst (λ (s : CaptureState). Opens before left (Ok s)) (sym state) (
      head.own_fits,
      head.peer_fits,
      refl,
      refl,
      rw (c.skip.ensures.unread, c.first_form.ensures.format)
          (line_consumed c.next.new.self.unread c.in-Ok-Some.len _ left _ found.1 found.2 head.spelled kept),
      rw c.first_form.ensures.format c.first_form.ensures.form,
    )

pub returns-in-Ok-behind_head-2-clause-opens : goal.returns-in-Ok-behind_head-2-clause-opens
returns-in-Ok-behind_head-2-clause-opens g c =
    let found = rw c.in-Ok-Some.field-0-is at c.in-Ok-Some.ensures.found in
    let before = g.R.Read.remaining (tally_lent c.args.reader.now) in
    let kept = start_kept c.in-Ok.lines.unread before _ c.in-Ok.ensures.1 found.3 in
    let head = part_head_takes _ c.in-Some-part_head_of.own c.in-Some-part_head_of.peer
    (ap part_head_at (sym c.line-in-Ok-Some.ensures) ∙ sym c.in-Some-part_head_of.ensures) in
    let left = g.R.Read.remaining (tally_lent c.next.new.reader) in
    let lines = c.skip-in-Some-part_head_of.new.self in
    let state : c.in-Ok-behind_head-2.capture ≡ state_at c.in-Some-part_head_of.own c.in-Some-part_head_of.peer Part lines =
    rw c.in-Ok-behind_head-2.is at c.behind_head-in-Some-part_head_of.ensures in
    subst (λ (s : CaptureState). OpensPart before left s) (sym state) (
      head.own_fits,
      head.peer_fits,
      refl,
      refl,
      rw c.skip-in-Some-part_head_of.ensures.unread
          (line_consumed c.next.new.self.unread c.in-Ok-Some.len _ left _ found.1 found.2 head.spelled kept),
      refl,
    )

pub returns-in-Ok-Some-clause-opens : goal.returns-in-Ok-Some-clause-opens
returns-in-Ok-Some-clause-opens g c =
    let found = rw c.in-Ok-Some.field-0-is at c.in-Ok-Some.ensures.found in
    let kept = start_kept c.in-Ok.lines.unread (g.R.Read.remaining (tally_lent c.args.reader.now)) _ c.in-Ok.ensures.1 found.3 in
    let left = g.R.Read.remaining (tally_lent c.next.new.reader) in
    let none = ap head_at (sym c.line.ensures) ∙ sym c.in_default-head_of.ensures in
    let none_part = ap part_head_at (sym c.line-in-Ok-Some.ensures) ∙ sym c.in_default-part_head_of.ensures in
    (refl, no_head c.next.new.self.unread c.in-Ok-Some.len _ left found.1 found.2 kept none none_part)
