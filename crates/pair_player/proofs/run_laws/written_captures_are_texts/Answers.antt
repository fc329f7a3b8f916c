use Rattle.pair_player.proofs.RunLaws.{all_texts}
use Rattle.pair_player.proofs.run_laws.written_captures_are_texts.Goals as goal

pub returns : goal.returns
returns c = all_texts
