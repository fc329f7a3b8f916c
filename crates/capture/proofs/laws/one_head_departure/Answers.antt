use Rattle.capture.proofs.TextLaws.{head_departs_once}
use Rattle.capture.proofs.laws.one_head_departure.Goals as goal

pub returns : goal.returns
returns c = head_departs_once
