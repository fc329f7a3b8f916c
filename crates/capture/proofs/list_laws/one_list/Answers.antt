use Rattle.capture.proofs.ListedSoFar as lists
use Rattle.capture.proofs.list_laws.one_list.Goals as goal

pub returns-clause-same : goal.returns-clause-same
returns-clause-same g c = lists.one_list g.I.ListItem.form c.lines_are_apart.ensures

pub returns-clause-begun : goal.returns-clause-begun
returns-clause-begun g c = lists.goes_on g.I.ListItem.form c.lines_are_apart.ensures

pub returns-clause-departs_nowhere : goal.returns-clause-departs_nowhere
returns-clause-departs_nowhere g c = lists.departs_nowhere g.I.ListItem.form c.lines_are_apart.ensures

pub returns-clause-head_stands : goal.returns-clause-head_stands
returns-clause-head_stands g c = lists.head_stands g.I.ListItem.form c.lines_are_apart.ensures
