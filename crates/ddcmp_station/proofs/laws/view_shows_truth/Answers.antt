use Rattle.ddcmp_station.proofs.Shown.{shows_truth}
use Rattle.ddcmp_station.proofs.laws.view_shows_truth.Goals as goal

pub returns : goal.returns
returns g c = λ all s labelled ordered. shows_truth all s labelled ordered
