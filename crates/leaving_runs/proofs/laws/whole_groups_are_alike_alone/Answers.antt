use Rattle.leaving_runs.proofs.Alone.Groups.{all_alike_alone}
use Rattle.leaving_runs.proofs.laws.whole_groups_are_alike_alone.Goals as goal

pub returns : goal.returns
returns c = λ leaving bindings side records whole is among. all_alike_alone leaving bindings whole side records is among
