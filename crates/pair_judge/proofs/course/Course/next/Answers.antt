use Rattle.std.proofs.Common.{refl, subst}
use Rattle.pair_judge.specs.declared.course.Ahead.{Ahead}
use Rattle.pair_judge.specs.inner.Course.{MayReadAhead}
use Rattle.pair_judge.proofs.Courses.{GrowingLaws, read_on}
use Rattle.pair_judge.proofs.course.Course.next.Goals as goal

pub returns-in-Ok-Some-clause-next : goal.returns-in-Ok-Some-clause-next
returns-in-Ok-Some-clause-next g c =
    let w = c.text_read_on.ensures in
    let laws : GrowingLaws = record { opened = w.opened; one_more = w.one_more; ended = w.ended } in
    let head = c.in-Ok-Some.ensures.head in
    let reading = subst (λ (a : Ahead). MayReadAhead a c.args.self.now.capture) c.in-Unread.is c.requires in
    let gives = rw c.in-Ok-Some.field-0-is at c.in-Ok-Some.ensures.gives reading in
    λ text made read. read_on laws text c.args.self.now _ _ _ made c.in-Unread.is refl head.0 head.1 read _ c.in-Unread.is gives
