use Rattle.ladder.proofs.Cuts.{cut}
use Rattle.ladder.proofs.laws.rows_have_no_gap.Goals as goal

pub returns : goal.returns
returns c = cut
