-- The own addresses of both ends, and which of them are left out.
use Rattle.std.specs.Prelude.{◌≡◌, ℕ, ◌==◌, Bool, false, if◌then◌else◌, Option, Some, None, slice_get}
use Rattle.wire_base.specs.declared.side.Side.{Side}
use Rattle.wire_base.specs.declared.side.Side.TheVariants.{A, B}
use Rattle.wire_base.specs.Side.{other_side}
use Rattle.link_groups.specs.declared.own_address.OwnAddress.{OwnAddress}
use Rattle.link_groups.specs.Place.{place_of}
use Rattle.leaving_out.specs.declared.leaving.Head.{Head}
use Rattle.leaving_out.specs.declared.leaving.Leaving.{Leaving}

-- an address that this side gave
abbrev pub own : Side → ℕ → OwnAddress
own side address = record { side = side; address = address }

-- whether it is left out, by the mark at its place
abbrev pub is_marked : Option Bool → Bool
is_marked (Some mark) = mark
is_marked None = false

abbrev pub is_left : Leaving → OwnAddress → Bool
is_left leaving address = is_marked (slice_get leaving.left_out.now (place_of address))

-- no own address is left out, and nothing that can't be read is carried
pub record LeavesNothing (leaving : Leaving) : Type 0 where
  pub none : (address : OwnAddress) → is_left leaving address ≡ false
  pub packets : leaving.unread_packets ≡ false
  pub messages : leaving.unread_messages ≡ false

-- the head of this side's capture
abbrev pub head_of : Leaving → Side → Head
head_of leaving A = leaving.head_of_a
head_of leaving B = leaving.head_of_b

-- What a message with this SRCADDR and DSTADDR is about at its sender: its own address, or else the other end's, or else no link
abbrev pub at_sender : Side → (src dst : ℕ) → OwnAddress
at_sender sender src dst =
    if src == 0 then (if dst == 0 then own sender 0 else own (other_side sender) dst)
    else own sender src

-- and at its receiver: the receiver's own address, or else the sender's, or else no link
abbrev pub at_receiver : Side → (src dst : ℕ) → OwnAddress
at_receiver sender src dst =
    if dst == 0 then (if src == 0 then own sender 0 else own sender src)
    else own (other_side sender) dst
