use Rattle.drawing.proofs.Ladders.{onward_so}
use Rattle.drawing.proofs.drawing.onward_drawn.Goals as goal

pub returns-in-Ok-begun : goal.returns-in-Ok-begun
returns-in-Ok-begun g c =
    onward_so c.args.range _ _ c.in-Ok-judged.watched.ends c.in-Ok-judged.watched.observer c.args.start c.in-Ok-begun.begun c.finished.result
    c.requires.start c.in-Ok-judged.ensures.answer c.in-Ok-judged.ensures.told c.in-Ok-begun.ensures c.finished.ensures
