use Rattle.framer.proofs.SoFarLaws as laws
use Rattle.framer.proofs.laws.framed_on.Goals as goal

pub returns-clause-start : goal.returns-clause-start
returns-clause-start c = laws.start

pub returns-clause-unit : goal.returns-clause-unit
returns-clause-unit c = laws.unit_more

pub returns-clause-more : goal.returns-clause-more
returns-clause-more c = laws.strays_more

pub returns-clause-piece : goal.returns-clause-piece
returns-clause-piece c = laws.piece_more

pub returns-clause-whole : goal.returns-clause-whole
returns-clause-whole c = laws.whole
