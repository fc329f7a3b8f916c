use Rattle.framer.proofs.WrittenLaws.{written}
use Rattle.framer.proofs.laws.written_is_found.Goals as goal

pub returns : goal.returns
returns c = written
