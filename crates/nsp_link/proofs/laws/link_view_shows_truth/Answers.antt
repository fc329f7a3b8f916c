use Rattle.nsp_link.proofs.Shown.{shows_truth}
use Rattle.nsp_link.proofs.laws.link_view_shows_truth.Goals as goal

pub returns : goal.returns
returns c = shows_truth
