use Rattle.capture.proofs.PartText.{whole, goes_on, departs_nowhere, head_stands}
use Rattle.capture.proofs.part_text.whole_part.Goals as goal

pub returns-clause-ended : goal.returns-clause-ended
returns-clause-ended c = whole

pub returns-clause-goes_on : goal.returns-clause-goes_on
returns-clause-goes_on c = goes_on

pub returns-clause-departs_nowhere : goal.returns-clause-departs_nowhere
returns-clause-departs_nowhere c = departs_nowhere

pub returns-clause-head_stands : goal.returns-clause-head_stands
returns-clause-head_stands c = head_stands
