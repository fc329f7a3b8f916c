use Rattle.drawing.proofs.Ladders.{ends_so}
use Rattle.drawing.proofs.drawing.ends_drawn.Goals as goal

pub returns-in-Ok-ends_begun : goal.returns-in-Ok-ends_begun
returns-in-Ok-ends_begun g c =
    ends_so c.args.range _ _ c.in-Ok-judged.watched.ends c.in-Ok-judged.watched.observer c.in-Ok-ends_begun.begun c.finished.result
    c.requires.start c.in-Ok-judged.ensures.answer c.in-Ok-judged.ensures.told c.in-Ok-ends_begun.ensures c.finished.ensures
