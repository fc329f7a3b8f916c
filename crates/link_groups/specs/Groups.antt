-- Which own addresses are of one group. `Groups` is seen as a label for each place: the same label, the same group.
use Rattle.std.specs.Prelude.{◌≡◌, ℕ, ◌^◌, ◌<◌, List, Option, Contains, slice_get}
use Rattle.link_groups.specs.declared.own_address.OwnAddress.{OwnAddress}
use Rattle.link_groups.specs.Place.{place_of}

-- two own addresses that a record binds to each other
abbrev pub Binding : Type 0
Binding = OwnAddress × OwnAddress

-- bound to each other, one after another
pub data AreTogether (bindings : List Binding) : OwnAddress → OwnAddress → Type 0 where
  -- an address with itself
  Same : (one : OwnAddress) → AreTogether bindings one one
  -- two that are bound
  Bound : {one other : OwnAddress} → Contains bindings (one, other) → AreTogether bindings one other
  -- it does not matter which is named first
  Back : {one other : OwnAddress} → AreTogether bindings one other → AreTogether bindings other one
  -- over one between
  Along : {one between other : OwnAddress} → AreTogether bindings one between → AreTogether bindings between other → AreTogether bindings one other

-- the label of an own address
abbrev pub label : List ℕ → OwnAddress → Option ℕ
label labels own = slice_get labels (place_of own)

-- These labels tell just which own addresses these bindings bring together. Those of a program are below 2 ^ 16.
pub record AreGroupsOf (bindings : List Binding) (labels : List ℕ) : Type 0 where
  pub together : (one other : OwnAddress) → AreTogether bindings one other → label labels one ≡ label labels other
  pub apart : (one other : OwnAddress) → one.address < 2 ^ 16 → other.address < 2 ^ 16 → label labels one ≡ label labels other
      → AreTogether bindings one other
