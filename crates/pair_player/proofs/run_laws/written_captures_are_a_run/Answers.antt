use Rattle.pair_player.proofs.RunLaws.{a_run}
use Rattle.pair_player.proofs.run_laws.written_captures_are_a_run.Goals as goal

pub returns : goal.returns
returns c = a_run
