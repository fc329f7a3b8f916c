use Rattle.capture.proofs.PartText.{apart, one_part}
use Rattle.capture.proofs.part_text.one_part.Goals as goal

pub returns-clause-list : goal.returns-clause-list
returns-clause-list c = one_part

pub returns-clause-apart : goal.returns-clause-apart
returns-clause-apart c = apart
