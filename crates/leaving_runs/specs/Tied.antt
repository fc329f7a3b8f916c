-- What the program leaves out of a pair of captures, as one side sees it, and what it has to be.
use Rattle.std.specs.Prelude.{◌≡◌, false, List, Contains, IfSome}
use Rattle.std.specs.List.{AllByRecursion}
use Rattle.wire_base.specs.declared.side.Side.{Side}
use Rattle.capture_record.specs.declared.record.Record.{Record}
use Rattle.capture_record.specs.declared.record.Record.TheVariants.{User}
use Rattle.dna_station.specs.declared.head.Head.{Head}
use Rattle.link_groups.specs.Groups.{Binding}
use Rattle.leaving_out.specs.declared.leaving.Leaving.{Leaving}
use Rattle.leaving_out.specs.Addresses.{head_of, is_left, own}
use Rattle.leaving_out.specs.About.{event_binding, bindings_of}
use Rattle.leaving_out.specs.Packets.{packet_left}
use Rattle.leaving_runs.specs.Nodes.{Leaves}

abbrev pub leaves_at : Leaving → (side other : Side) → Leaves
leaves_at leaving side other = record {
  out = record { own = λ n. is_left leaving (own side n); far = λ n. is_left leaving (own other n) };
  packets = record { own = packet_left leaving side; far = packet_left leaving other };
}

-- it knows the head of this side's capture
pub record KnowsHead (leaving : Leaving) (side : Side) (head : Head) : Type 0 where
  pub own_is : (head_of leaving side).own ≡ head.own
  pub peer_is : (head_of leaving side).peer ≡ head.peer

-- both own addresses are left out, or none
abbrev pub IsAlike : Leaving → Binding → Type 0
IsAlike leaving binding = is_left leaving binding.0 ≡ is_left leaving binding.1

-- an `accept` or a `reject` binds so
abbrev pub RecordAlike : Leaving → Side → Record → Type 0
RecordAlike leaving side (User event) = IfSome (event_binding side event) (IsAlike leaving)
RecordAlike leaving side r = Unit {0}

abbrev pub AreAlike : Leaving → Side → List Record → Type 0
AreAlike leaving side records = AllByRecursion (RecordAlike leaving side) records

-- all that the records of this side bind is among these
abbrev pub AreAmong : List Binding → Side → List Record → Type 0
AreAmong bindings side records = (binding : Binding) → Contains (bindings_of side false records) binding → Contains bindings binding
