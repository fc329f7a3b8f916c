use Rattle.drawing.proofs.Told.{followed_one}
use Rattle.drawing.proofs.behind.follow.Goals as goal

pub returns-then-is_behind : goal.returns-then-is_behind
returns-then-is_behind g = followed_one _ _ g.args.side g.args.entry g.follows.ensures
