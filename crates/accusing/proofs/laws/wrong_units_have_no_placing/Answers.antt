use Rattle.accusing.proofs.Final.{never_placed}
use Rattle.accusing.proofs.laws.wrong_units_have_no_placing.Goals as goal

pub returns : goal.returns
returns g c = λ passed records wrong refuted placing. never_placed passed records wrong refuted placing
