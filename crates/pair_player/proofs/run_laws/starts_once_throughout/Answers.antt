use Rattle.pair_player.proofs.RunLaws.{once_throughout}
use Rattle.pair_player.proofs.run_laws.starts_once_throughout.Goals as goal

pub returns : goal.returns
returns c = once_throughout
