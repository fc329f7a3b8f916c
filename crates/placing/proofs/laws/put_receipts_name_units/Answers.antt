use Rattle.placing.proofs.Names as names
use Rattle.placing.proofs.laws.put_receipts_name_units.Goals as goal

pub returns-clause-names : goal.returns-clause-names
returns-clause-names c = names.puts_name

pub returns-clause-put : goal.returns-clause-put
returns-clause-put c = names.puts_passed

pub returns-clause-none : goal.returns-clause-none
returns-clause-none c = names.none_passed

pub returns-clause-other : goal.returns-clause-other
returns-clause-other c = names.other_passed

pub returns-clause-own : goal.returns-clause-own
returns-clause-own c = names.own_passed
