use Rattle.capture.proofs.TextLaws.{one_head_line}
use Rattle.capture.proofs.laws.no_head_begins_another.Goals as goal

pub returns : goal.returns
returns c = one_head_line
