use Rattle.std.proofs.Common.{◌≡◌, ap, subst}
use Rattle.link_groups.specs.LeftOut.{IsLeftToo}
use Rattle.link_groups.proofs.Whole.{still_whole}
use Rattle.link_groups.proofs.left_groups.LeftGroups.leave.Goals as goal

pub invariant_of-self : goal.invariant_of-self
invariant_of-self c = λ bindings groups.
    still_whole bindings c.args.of c.self.inside.groups c.self.inside.left_out c.leave.new.self groups c.leave.ensures
    (c.self.invariant bindings groups)

pub returns : goal.returns
returns c = (
  ap (λ now. now.labels) c.self.view_is,
  subst (λ now. IsLeftToo c.args.of now.labels now.left_out c.leave.new.self) c.self.view_is c.leave.ensures,
)
