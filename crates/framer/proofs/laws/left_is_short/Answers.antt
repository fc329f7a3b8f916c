use Rattle.framer.proofs.WrittenLaws.{left_short}
use Rattle.framer.proofs.laws.left_is_short.Goals as goal

pub returns : goal.returns
returns c = left_short
