use Rattle.capture.proofs.TextLaws.{one_record_line}
use Rattle.capture.proofs.laws.no_line_begins_another.Goals as goal

pub returns : goal.returns
returns c = one_record_line
