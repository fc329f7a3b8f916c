use Rattle.placing.proofs.Puts as puts
use Rattle.placing.proofs.laws.put_units_were_sent.Goals as goal

pub returns-clause-units : goal.returns-clause-units
returns-clause-units c = puts.puts_units

pub returns-clause-more : goal.returns-clause-more
returns-clause-more c = puts.puts_then
