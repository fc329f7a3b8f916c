use Rattle.capture.proofs.ListedSoFar.{begins, whole}
use Rattle.capture.proofs.list_laws.known_list.Goals as goal

pub returns-clause-begins : goal.returns-clause-begins
returns-clause-begins g c = begins g.I.ListItem.form

pub returns-clause-whole : goal.returns-clause-whole
returns-clause-whole g c = whole g.I.ListItem.form
