use Rattle.drawing.proofs.Told.{followed_all, followed_ended}
use Rattle.drawing.proofs.behind.tell_behind.Goals as goal

pub returns-then-is_all_b-clause-ok : goal.returns-then-is_all_b-clause-ok
returns-then-is_all_b-clause-ok g c = followed_ended _ _ _ _ c.in-Ok.ensures.ok c.in-Ok-tell_side.ensures.ok c.end.ensures

pub returns-else-is_all_a-clause-ok : goal.returns-else-is_all_a-clause-ok
returns-else-is_all_a-clause-ok g c = followed_all _ _ _ c.in-Ok.ensures.ok c.in-Ok-tell_side.ensures.ok
