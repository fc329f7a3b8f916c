use Rattle.wire_tap.proofs.accused.Line.pass_all.Goals as goal

pub returns-in-Ok-false : goal.returns-in-Ok-false
returns-in-Ok-false g c line_alone text h =
    rw c.in-Ok-false.field-0-test at c.in-Ok-false.ensures.reads line_alone text (c.loop.invariant.line line_alone text h)
