use Rattle.capture.proofs.TextLaws.{no_departure}
use Rattle.capture.proofs.laws.no_line_departs.Goals as goal

pub returns : goal.returns
returns c = no_departure
