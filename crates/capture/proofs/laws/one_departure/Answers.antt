use Rattle.capture.proofs.TextLaws.{departs_once}
use Rattle.capture.proofs.laws.one_departure.Goals as goal

pub returns : goal.returns
returns c = departs_once
