use Rattle.capture.proofs.TextLaws.{no_head_departure}
use Rattle.capture.proofs.laws.no_head_departs.Goals as goal

pub returns : goal.returns
returns c = no_head_departure
