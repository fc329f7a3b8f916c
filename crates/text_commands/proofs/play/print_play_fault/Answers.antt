use Rattle.text_commands.proofs.play.print_play_fault.Goals as goal

pub returns-in-Departs : goal.returns-in-Departs
returns-in-Departs g c = rw (c.in-Departs.is, ← c.words.ensures.words) c.print_script_line.ensures

pub returns-in-BadStep : goal.returns-in-BadStep
returns-in-BadStep g c = rw c.in-BadStep.is c.print_script_line-in-BadStep.ensures

pub returns-in-Full : goal.returns-in-Full
returns-in-Full g c = rw c.in-Full.is c.print_script_line-in-Full.ensures

pub returns-in-Read : goal.returns-in-Read
returns-in-Read g c = rw c.in-Read.is c.print.ensures
