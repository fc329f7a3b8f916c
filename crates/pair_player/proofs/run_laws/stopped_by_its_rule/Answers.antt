use Rattle.pair_player.proofs.StopLaws.{by_its_rule}
use Rattle.pair_player.proofs.run_laws.stopped_by_its_rule.Goals as goal

pub returns : goal.returns
returns c = by_its_rule
