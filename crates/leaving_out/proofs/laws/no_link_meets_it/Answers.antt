use Rattle.leaving_out.proofs.Unmet.{meets_none}
use Rattle.leaving_out.proofs.laws.no_link_meets_it.Goals as goal

pub returns : goal.returns
returns c = meets_none
