-- Which own address a record is about: the one that its own side names, else one of the other side. And which of them belong together.
use Rattle.std.specs.Prelude.{ℕ, ◌==◌, Bool, if◌then◌else◌, Option, Some, None, List, [], ◌∷◌}
use Rattle.wire_base.specs.declared.side.Side.{Side}
use Rattle.wire_base.specs.Side.{other_side}
use Rattle.capture_record.specs.declared.event.Event.{Event}
use Rattle.capture_record.specs.declared.event.Event.TheVariants as events
use Rattle.capture_record.specs.declared.record.Record.{Record}
use Rattle.capture_record.specs.declared.record.Record.TheVariants.{Sent, Received, Noise, User}
use Rattle.dna_packet.specs.Nsp.{NspValue, DataSegment, LinkService, DataAck, OtherDataAck, ConnectAck, NoOperation, ConnectInitiate, ConnectConfirm}
use Rattle.dna_packet.specs.Nsp.{DisconnectInitiate, DisconnectConfirm}
use Rattle.link_groups.specs.declared.own_address.OwnAddress.{OwnAddress}
use Rattle.link_groups.specs.Groups.{Binding}
use Rattle.leaving_out.specs.Addresses.{at_receiver, at_sender, own}
use Rattle.leaving_out.specs.Messages.{destination_of, message_in_packet, message_in_unit, source_of}

-- of a message that this side sent, at its sender
abbrev pub about_at_sender : Side → Option NspValue → Option OwnAddress
about_at_sender sender (Some m) = Some (at_sender sender (source_of m) (destination_of m))
about_at_sender sender None = None

-- and at its receiver
abbrev pub about_at_receiver : Side → Option NspValue → Option OwnAddress
about_at_receiver sender (Some m) = Some (at_receiver sender (source_of m) (destination_of m))
about_at_receiver sender None = None

-- of an event at this side
abbrev pub event_about : Side → Event → Option OwnAddress
event_about side events.Start = None
event_about side events.Halt = None
event_about side (events.Open link) = Some (own side link)
event_about side (events.Accept partner link) = Some (own side link)
event_about side (events.Reject partner link) = Some (own side link)
event_about side (events.In link bytes) = Some (own side link)
event_about side (events.Up link bytes) = Some (own side link)
event_about side (events.Close link) = Some (own side link)
event_about side events.Boot = None
event_about side (events.Abort link) = Some (own side link)
event_about side (events.Composed packet) = about_at_sender side (message_in_packet packet)
event_about side (events.Interrupt link bytes) = Some (own side link)
event_about side (events.Interrupted link bytes) = Some (own side link)

-- of a record of this side
abbrev pub about : Side → Record → Option OwnAddress
about side (Sent unit) = about_at_sender side (message_in_unit unit)
about side (Received hint fate unit) = about_at_receiver (other_side side) (message_in_unit unit)
about side (Noise bytes) = None
about side (User event) = event_about side event

-- ---- which own addresses belong together

-- an own address of this side, and one of the other
abbrev pub bound : Side → (here there : ℕ) → Binding
bound side here there = (own side here, own (other_side side) there)

-- where the other one is not 0
abbrev pub bound_if_named : Side → (here there : ℕ) → Option Binding
bound_if_named side here there = if there == 0 then None else Some (bound side here there)

-- What a message that this side sent binds: a CC its addresses, where neither is 0. A connect ack names no link of its sender, so one to address 0
-- is about the sender's own address 0: it binds that of both ends
abbrev pub answered : Side → Option NspValue → Option Binding
answered sender None = None
answered sender (Some (DataSegment s)) = None
answered sender (Some (LinkService interrupt dst src rest)) = None
answered sender (Some (DataAck dst src acks)) = None
answered sender (Some (OtherDataAck dst src rest)) = None
answered sender (Some (ConnectAck dst)) = if dst == 0 then Some (bound sender 0 0) else None
answered sender (Some (NoOperation rest)) = None
answered sender (Some (ConnectInitiate retransmitted src services info segsize user_data)) = None
answered sender (Some (ConnectConfirm dst src services info segsize user_data)) =
    if src == 0 then None else bound_if_named sender src dst
answered sender (Some (DisconnectInitiate dst src reason user_data)) = None
answered sender (Some (DisconnectConfirm dst src reason)) = None

-- And one that came from this side, to an end that is alone: there a call from address 0, and its confirmation, bind that of both ends, for the
-- connect ack that may answer it
abbrev pub confirmed : Side → Option NspValue → Option Binding
confirmed sender None = None
confirmed sender (Some (DataSegment s)) = None
confirmed sender (Some (LinkService interrupt dst src rest)) = None
confirmed sender (Some (DataAck dst src acks)) = None
confirmed sender (Some (OtherDataAck dst src rest)) = None
confirmed sender (Some (ConnectAck dst)) = None
confirmed sender (Some (NoOperation rest)) = None
confirmed sender (Some (ConnectInitiate retransmitted src services info segsize user_data)) =
    if src == 0 then Some (bound sender 0 0) else None
confirmed sender (Some (ConnectConfirm dst src services info segsize user_data)) =
    if src == 0 then Some (bound sender 0 0) else bound_if_named sender src dst
confirmed sender (Some (DisconnectInitiate dst src reason user_data)) = None
confirmed sender (Some (DisconnectConfirm dst src reason)) = None

abbrev pub event_binding : Side → Event → Option Binding
event_binding side events.Start = None
event_binding side events.Halt = None
event_binding side (events.Open link) = None
event_binding side (events.Accept partner link) = Some (bound side link partner)
event_binding side (events.Reject partner link) = Some (bound side link partner)
event_binding side (events.In link bytes) = None
event_binding side (events.Up link bytes) = None
event_binding side (events.Close link) = None
event_binding side events.Boot = None
event_binding side (events.Abort link) = None
event_binding side (events.Composed packet) = None
event_binding side (events.Interrupt link bytes) = None
event_binding side (events.Interrupted link bytes) = None

-- what a record of this side binds; what came binds only where the end is `alone`
abbrev pub binding_of : Side → (alone : Bool) → Record → Option Binding
binding_of side alone (Sent unit) = answered side (message_in_unit unit)
binding_of side alone (Received hint fate unit) = if alone then confirmed (other_side side) (message_in_unit unit) else None
binding_of side alone (Noise bytes) = None
binding_of side alone (User event) = event_binding side event

abbrev pub if_bound : Option Binding → List Binding → List Binding
if_bound (Some binding) more = binding ∷ more
if_bound None more = more

-- the bindings of a side's records, in their order
abbrev pub bindings_of : Side → (alone : Bool) → List Record → List Binding
bindings_of side alone [] = []
bindings_of side alone (r ∷ rs) = if_bound (binding_of side alone r) (bindings_of side alone rs)
