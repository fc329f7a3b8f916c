use Rattle.capture.proofs.TextLaws.{begun_lines}
use Rattle.capture.proofs.laws.begun_list.Goals as goal

pub returns : goal.returns
returns c = begun_lines
