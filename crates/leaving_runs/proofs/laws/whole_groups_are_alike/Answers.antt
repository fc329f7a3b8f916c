use Rattle.leaving_runs.proofs.Groups.{all_alike}
use Rattle.leaving_runs.proofs.laws.whole_groups_are_alike.Goals as goal

pub returns : goal.returns
returns c = λ leaving bindings side records whole is among. all_alike leaving bindings whole side records is among
