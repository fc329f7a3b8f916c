use Rattle.pair_player.proofs.WholeLaws.{whole_played}
use Rattle.pair_player.proofs.laws.played_whole.Goals as goal

pub returns : goal.returns
returns c = λ bytes script played old new answer is_text made h. whole_played bytes script played is_text made old new answer h
