use Rattle.capture.proofs.PartText.{opened, one_more, ended}
use Rattle.capture.proofs.part_text.part_read_on.Goals as goal

pub returns-clause-opened : goal.returns-clause-opened
returns-clause-opened c = opened

pub returns-clause-one_more : goal.returns-clause-one_more
returns-clause-one_more c = one_more

pub returns-clause-ended : goal.returns-clause-ended
returns-clause-ended c = ended
