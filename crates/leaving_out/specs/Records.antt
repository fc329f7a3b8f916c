-- What becomes of a record, and of the text of a capture.
use Rattle.std.specs.Prelude.{ℕ, if◌then◌else◌, Option, Some, None, List, [], ◌∷◌}
use Rattle.wire_base.specs.declared.side.Side.{Side}
use Rattle.wire_base.specs.Side.{other_side}
use Rattle.capture_record.specs.declared.event.Event.{Event}
use Rattle.capture_record.specs.declared.event.Event.TheVariants as events
use Rattle.capture_record.specs.declared.fate.Fate.{Fate}
use Rattle.capture_record.specs.declared.fate.Fate.TheVariants.{NotKept, Kept, Dropped}
use Rattle.capture_record.specs.declared.record.Record.{Record}
use Rattle.capture_record.specs.declared.record.Record.TheVariants.{Sent, Received, Noise, User}
use Rattle.link_groups.specs.declared.own_address.OwnAddress.{OwnAddress}
use Rattle.leaving_out.specs.declared.leaving.Leaving.{Leaving}
use Rattle.leaving_out.specs.Addresses.{is_left, own}
use Rattle.leaving_out.specs.About.{about_at_receiver}
use Rattle.leaving_out.specs.Messages.{message_in_unit}
use Rattle.leaving_out.specs.Packets.{packet_left, unit_left}

-- An event of a link that is left out becomes an empty interrupt that was handed in, which is carried and never judged.
abbrev pub event_if_left : Leaving → Side → (link : ℕ) → Event → Event
event_if_left leaving side link event = if is_left leaving (own side link) then events.Interrupt link [] else event

abbrev pub event_left : Leaving → Side → Event → Event
event_left leaving side events.Start = events.Start
event_left leaving side events.Halt = events.Halt
event_left leaving side (events.Open link) = event_if_left leaving side link (events.Open link)
event_left leaving side (events.Accept partner link) = event_if_left leaving side link (events.Accept partner link)
event_left leaving side (events.Reject partner link) = event_if_left leaving side link (events.Reject partner link)
event_left leaving side (events.In link bytes) = event_if_left leaving side link (events.In link bytes)
event_left leaving side (events.Up link bytes) = event_if_left leaving side link (events.Up link bytes)
event_left leaving side (events.Close link) = event_if_left leaving side link (events.Close link)
event_left leaving side events.Boot = events.Boot
event_left leaving side (events.Abort link) = event_if_left leaving side link (events.Abort link)
event_left leaving side (events.Composed packet) = events.Composed (packet_left leaving side packet)
event_left leaving side (events.Interrupt link bytes) = event_if_left leaving side link (events.Interrupt link bytes)
event_left leaving side (events.Interrupted link bytes) = event_if_left leaving side link (events.Interrupted link bytes)

abbrev pub dropped_if_left : Leaving → Option OwnAddress → Fate
dropped_if_left leaving (Some address) = if is_left leaving address then Dropped else Kept
dropped_if_left leaving None = Kept

-- What becomes of the fate of a unit that came: a packet that was kept is lost before the links meet it, where its message is left out here.
abbrev pub fate_left : Leaving → Side → Fate → (unit : List ℕ) → Fate
fate_left leaving side NotKept unit = NotKept
fate_left leaving side Kept unit = dropped_if_left leaving (about_at_receiver (other_side side) (message_in_unit unit))
fate_left leaving side Dropped unit = Dropped

-- what becomes of a record of this side
abbrev pub record_left : Leaving → Side → Record → Record
record_left leaving side (Sent unit) = Sent (unit_left leaving side unit)
record_left leaving side (Received hint fate unit) = Received hint (fate_left leaving side fate unit) (unit_left leaving (other_side side) unit)
record_left leaving side (Noise bytes) = Noise bytes
record_left leaving side (User event) = User (event_left leaving side event)

-- and of its records
abbrev pub records_left : Leaving → Side → List Record → List Record
records_left leaving side [] = []
records_left leaving side (r ∷ rs) = record_left leaving side r ∷ records_left leaving side rs
