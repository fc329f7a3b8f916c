use Rattle.pair_player.proofs.TextLaws.{lines}
use Rattle.pair_player.proofs.script_reader.StepsListItem.lines_are_apart.Goals as goal

pub returns : goal.returns
returns c = lines
