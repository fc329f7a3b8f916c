use Rattle.drawing.proofs.Told.{followed_on}
use Rattle.drawing.proofs.behind.tell_records.Goals as goal

pub loop-number-preserved : goal.loop-number-preserved
loop-number-preserved g c = followed_on _ _ _ c.loop-number.invariant c.follow.ensures
