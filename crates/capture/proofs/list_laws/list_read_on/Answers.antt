use Rattle.capture.proofs.ListedSoFar.{opened, one_more}
use Rattle.capture.proofs.list_laws.list_read_on.Goals as goal

pub returns-clause-opened : goal.returns-clause-opened
returns-clause-opened g c = λ text left state opens.
    opened g.I.ListItem.form text _ state.node_a state.node_b opens.0 opens.1 opens.4

pub returns-clause-one_more : goal.returns-clause-one_more
returns-clause-one_more g c = one_more g.I.ListItem.form
