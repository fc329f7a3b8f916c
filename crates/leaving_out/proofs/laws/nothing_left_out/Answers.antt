use Rattle.leaving_out.proofs.Stays.{record_stays}
use Rattle.leaving_out.proofs.laws.nothing_left_out.Goals as goal

pub returns : goal.returns
returns c = record_stays
