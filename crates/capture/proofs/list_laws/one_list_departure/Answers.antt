use Rattle.capture.proofs.ListedSoFar.{departs_first}
use Rattle.capture.proofs.ListedText.{departs_once, head_departs_once}
use Rattle.capture.proofs.list_laws.one_list_departure.Goals as goal

pub returns-clause-item : goal.returns-clause-item
returns-clause-item g c = departs_once g.I.ListItem.form c.lines_are_apart.ensures

pub returns-clause-head : goal.returns-clause-head
returns-clause-head g c = head_departs_once g.I.ListItem.form c.lines_are_apart.ensures

pub returns-clause-first : goal.returns-clause-first
returns-clause-first g c = departs_first g.I.ListItem.form c.lines_are_apart.ensures
