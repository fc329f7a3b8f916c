-- What is said is what the ending and the verdict tell; its text is printed with what it rests on after it.
use Rattle.std.proofs.Common.{sym, ◌∙◌}
use Rattle.tap_command.proofs.TapTelling.{told_as}
use Rattle.tap_command.proofs.tap.print_told.Goals as goal

pub returns-in-Unexplained : goal.returns-in-Unexplained
returns-in-Unexplained g c = λ words told.
    told_as words c.args.captured _ _ _ (sym c.in-Unexplained.is ∙ c.said_of.ensures)
    (c.print_behind-in-Unexplained.ensures _ c.unexplained_text-text.ensures)

pub returns-in-Apart : goal.returns-in-Apart
returns-in-Apart g c = λ words told.
    told_as words c.args.captured _ _ _ (sym c.in-Apart.is ∙ c.said_of.ensures)
    (c.print_behind-in-Apart.ensures _ c.apart_text-text.ensures)

pub returns-in-UnexplainedEnd : goal.returns-in-UnexplainedEnd
returns-in-UnexplainedEnd g c = λ words told.
    told_as words c.args.captured _ _ _ (sym c.in-UnexplainedEnd.is ∙ c.said_of.ensures)
    (c.print_behind-in-UnexplainedEnd.ensures _ c.unexplained_end_text-text.ensures)
