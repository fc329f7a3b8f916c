use Rattle.leaving_out.proofs.Unmet.{apart}
use Rattle.leaving_out.proofs.laws.no_two_become_one.Goals as goal

pub returns : goal.returns
returns c = apart
