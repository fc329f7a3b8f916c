use Rattle.std.proofs.Common.{not, eqb}
use Rattle.pair_judge.proofs.LineEnds.{line_ends_alike}
use Rattle.pair_judge.proofs.layers.alone.NothingOnTopTop.shows_alone.Goals as goal

pub returns-clause-ends : goal.returns-clause-ends
returns-clause-ends g c = line_ends_alike (not (eqb g.row.OF_PERIOD 0))
