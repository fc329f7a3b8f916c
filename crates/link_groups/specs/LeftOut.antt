-- Which own addresses are left out: `LeftOut` is seen as whether each place is
use Rattle.std.specs.Prelude.{◌≡◌, ℕ, ◌<◌, ◌^◌, ◌⊎◌, ◌↔◌, Bool, true, false, List, Some, slice_get}
use Rattle.link_groups.specs.declared.own_address.OwnAddress.{OwnAddress}
use Rattle.link_groups.specs.Groups.{AreGroupsOf, AreTogether, Binding}
use Rattle.link_groups.specs.Place.{place_of}

abbrev pub IsLeftOut : List Bool → OwnAddress → Type 0
IsLeftOut left_out own = slice_get left_out (place_of own) ≡ Some true

-- Of two own addresses that these bindings bring together both are left out, or none. Those of a program are below 2 ^ 16.
abbrev pub AreWhole : List Binding → List Bool → Type 0
AreWhole bindings left_out = (one other : OwnAddress) → one.address < 2 ^ 16 → other.address < 2 ^ 16 → AreTogether bindings one other
    → IsLeftOut left_out one → IsLeftOut left_out other

-- all that are together with an own address are left out, beside those that were
abbrev pub IsLeftToo : OwnAddress → (labels : List ℕ) → (old new : List Bool) → Type 0
IsLeftToo of labels old new = (bindings : List Binding) → AreGroupsOf bindings labels → (own : OwnAddress) → own.address < 2 ^ 16
    → (IsLeftOut new own ↔ (IsLeftOut old own ⊎ AreTogether bindings of own))

-- `LeftGroups` is seen as the labels of the groups, and what is left out of them
pub record LeftGroupsValue : Type 0 where
  pub labels : List ℕ
  pub left_out : List Bool

-- What becomes of them once the group of this own address is left out, and whether it was not yet
abbrev pub Leaves : OwnAddress → (old new : LeftGroupsValue) → Bool → Type 0
Leaves of old new true = (new.labels ≡ old.labels) × IsLeftToo of old.labels old.left_out new.left_out
Leaves of old new false = (new ≡ old) × IsLeftOut old.left_out of
