use Rattle.pair_player.proofs.LineWords.{read_departs, read_step}
use Rattle.pair_player.proofs.script_reader.StepsListItem.read.Goals as goal

pub returns-clause-item : goal.returns-clause-item
returns-clause-item c = read_step c.line_into.new.room c.args.line.now c.line_into.result c.line_into.ensures.step

pub returns-clause-departs : goal.returns-clause-departs
returns-clause-departs c = read_departs c.line_into.new.room c.args.line.now c.line_into.result c.line_into.ensures.step
