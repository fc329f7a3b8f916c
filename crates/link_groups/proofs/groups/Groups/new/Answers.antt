use Rattle.link_groups.proofs.Grouping.{groups_of_none}
use Rattle.link_groups.proofs.Rings.{rings_of_one}
use Rattle.link_groups.proofs.groups.Groups.new.Goals as goal

pub invariant_of-result : goal.invariant_of-result
invariant_of-result c = (rings_of_one _ _ c.in_ok-numbered.ensures c.in_ok-numbered-2.ensures, c.in_ok-ones.ensures)

pub returns : goal.returns
returns c = groups_of_none _ c.in_ok-numbered.ensures
