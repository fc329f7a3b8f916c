use Rattle.std.proofs.Common.{refl, ◌∙◌, ap}
use Rattle.ladder.specs.Ladder.{LadderView}
use Rattle.drawing.specs.Telling.{ladder_behind, ladder_told}
use Rattle.drawing.proofs.Onwards.{onward_begun}
use Rattle.drawing.proofs.telling.Onward.begun.Goals as goal

pub returns : goal.returns
returns c =
    onward_begun c.args.self (record { ladder = c.tell.new.ladder; is_all = c.args.self.first.is_all }) c.args.start.side c.args.start.line
    c.args.rows c.in_ok-ladder.ladder c.in_ok-ladder.ensures refl
    (c.in_ok-tell.ensures ∙ ap (λ (l : LadderView). ladder_behind (ladder_told l c.args.self.first.records.items) c.args.self.first.later.items)
    c.in_ok-begin.ensures.ok)
