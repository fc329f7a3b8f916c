use Rattle.capture.proofs.TextLaws.{no_end_departure}
use Rattle.capture.proofs.laws.no_end_departs.Goals as goal

pub returns : goal.returns
returns c = no_end_departure
