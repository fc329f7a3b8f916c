-- What is asked of the records of one end alone of which links are left out.
use Rattle.std.specs.Prelude.{◌≡◌, ◌≤◌, false, true, List, Option, Some, None, Contains, IfSome}
use Rattle.std.specs.List.{AllByRecursion}
use Rattle.wire_base.specs.declared.side.Side.{Side}
use Rattle.wire_base.specs.Side.{other_side}
use Rattle.capture_record.specs.declared.record.Record.{Record}
use Rattle.capture_record.specs.declared.record.Record.TheVariants.{Received}
use Rattle.dna_packet.specs.Nsp.{NspValue, ConnectConfirm}
use Rattle.dna_station.specs.declared.head.Head.{Head}
use Rattle.link_groups.specs.Groups.{Binding}
use Rattle.leaving_out.specs.declared.leaving.Leaving.{Leaving}
use Rattle.leaving_out.specs.Addresses.{is_left}
use Rattle.leaving_out.specs.About.{about, about_at_receiver, about_at_sender, binding_of, bindings_of}
use Rattle.leaving_out.specs.Messages.{message_in_unit}
use Rattle.leaving_runs.specs.Tied.{IsAlike}

-- the head that the capture of the other end has
abbrev pub seen_from_there : Head → Head
seen_from_there head = record { own = head.peer; peer = head.own }

-- what a record binds, what came included, is alike
abbrev pub RecordAlikeAlone : Leaving → Side → Record → Type 0
RecordAlikeAlone leaving side r = IfSome (binding_of side true r) (IsAlike leaving)

abbrev pub AreAlikeAlone : Leaving → Side → List Record → Type 0
AreAlikeAlone leaving side records = AllByRecursion (RecordAlikeAlone leaving side) records

-- a CC names the link that sends it: 0 is the address of none
abbrev pub NamesSender : Option NspValue → Type 0
NamesSender None = Unit {0}
NamesSender (Some (ConnectConfirm dst src services info segsize user_data)) = 1 ≤ src
NamesSender (Some m) = Unit {0}

-- so of what comes
abbrev pub ComesFromLink : Record → Type 0
ComesFromLink (Received hint fate unit) = NamesSender (message_in_unit unit)
ComesFromLink r = Unit {0}

-- all that the records of this side alone bind is among these
abbrev pub AreAmongAlone : List Binding → Side → List Record → Type 0
AreAmongAlone bindings side records = (binding : Binding) → Contains (bindings_of side true records) binding → Contains bindings binding

-- what the record is about is judged; of what comes, at its sender too
abbrev pub IsJudgedAlone : Leaving → Side → Record → Type 0
IsJudgedAlone leaving side (Received hint fate unit) =
    IfSome (about_at_receiver (other_side side) (message_in_unit unit)) (λ address. is_left leaving address ≡ false)
    × IfSome (about_at_sender (other_side side) (message_in_unit unit)) (λ address. is_left leaving address ≡ false)
IsJudgedAlone leaving side r = IfSome (about side r) (λ address. is_left leaving address ≡ false)
