-- Whole groups stay whole once one more is left out.
use Rattle.std.proofs.Common.{ℕ, ◌⊎◌, Bool, List, inl, inr}
use Rattle.link_groups.specs.declared.own_address.OwnAddress.{OwnAddress}
use Rattle.link_groups.specs.Groups.{AreGroupsOf, AreTogether, Binding}
use Rattle.link_groups.specs.Groups.AreTogether.{Along}
use Rattle.link_groups.specs.LeftOut.{AreWhole, IsLeftOut, IsLeftToo}

pub still_whole : (bindings : List Binding) (of : OwnAddress) (labels : List ℕ) (old new : List Bool) → AreGroupsOf bindings labels
    → IsLeftToo of labels old new → AreWhole bindings old → AreWhole bindings new
still_whole bindings of labels old new groups left whole one other small small_too together is =
    (left bindings groups other small_too).1 (elim ((left bindings groups one small).0 is) [
      | inl was ↦ inl (whole one other small small_too together was)
      | inr of_group ↦ inr (Along of_group together)
    ])
