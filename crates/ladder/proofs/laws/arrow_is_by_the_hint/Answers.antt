use Rattle.ladder.proofs.Arrows.{is_arrow}
use Rattle.ladder.proofs.laws.arrow_is_by_the_hint.Goals as goal

pub returns : goal.returns
returns c = is_arrow
