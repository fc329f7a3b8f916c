use Rattle.ddcmp_station.proofs.FailingArrival.{fresh_passes, of_pair_passes, not_kept_passes}
use Rattle.ddcmp_station.proofs.laws.allowed_arrives.Goals as goal

pub returns : goal.returns
returns c = record { fresh = fresh_passes; of_pair = of_pair_passes; not_kept = not_kept_passes }
