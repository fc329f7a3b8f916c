use Rattle.accusing_links.proofs.Backward.{never_back}
use Rattle.accusing_links.proofs.laws.backward_acknowledgements_have_no_placing.Goals as goal

pub returns : goal.returns
returns c = never_back
