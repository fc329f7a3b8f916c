-- What is left of a record.
use Rattle.std.specs.Prelude.{ℕ, if◌then◌else◌, Option, Some, None, List, []}
use Rattle.capture_record.specs.declared.event.Event.{Event}
use Rattle.capture_record.specs.declared.event.Event.TheVariants as events
use Rattle.capture_record.specs.declared.fate.Fate.{Fate}
use Rattle.capture_record.specs.declared.fate.Fate.TheVariants.{NotKept, Kept, Dropped}
use Rattle.capture_record.specs.declared.record.Record.{Record}
use Rattle.capture_record.specs.declared.record.Record.TheVariants.{Sent, Received, Noise, User}
use Rattle.dna_packet.specs.Nsp.{NspValue}
use Rattle.leaving_out.specs.Messages.{message_in_unit}
use Rattle.dna_leaving.specs.LeftOut.{LeftOut, source_of, destination_of, kept_out}
use Rattle.leaving_runs.specs.Stations.{bytes_left}
use Rattle.leaving_runs.specs.Nodes.{Leaves}

-- an event of a link that is left out becomes an empty interrupt that was handed in, which is carried and never judged
abbrev pub event_if : LeftOut → (link : ℕ) → Event → Event
event_if out link event = if out.own link then events.Interrupt link [] else event

abbrev pub event_left : Leaves → Event → Event
event_left leaves events.Start = events.Start
event_left leaves events.Halt = events.Halt
event_left leaves (events.Open link) = event_if leaves.out link (events.Open link)
event_left leaves (events.Accept partner link) = event_if leaves.out link (events.Accept partner link)
event_left leaves (events.Reject partner link) = event_if leaves.out link (events.Reject partner link)
event_left leaves (events.In link bytes) = event_if leaves.out link (events.In link bytes)
event_left leaves (events.Up link bytes) = event_if leaves.out link (events.Up link bytes)
event_left leaves (events.Close link) = event_if leaves.out link (events.Close link)
event_left leaves events.Boot = events.Boot
event_left leaves (events.Abort link) = event_if leaves.out link (events.Abort link)
event_left leaves (events.Composed packet) = events.Composed (leaves.packets.own packet)
event_left leaves (events.Interrupt link bytes) = event_if leaves.out link (events.Interrupt link bytes)
event_left leaves (events.Interrupted link bytes) = event_if leaves.out link (events.Interrupted link bytes)

abbrev pub met_if : LeftOut → Option NspValue → Fate
met_if out (Some m) = if kept_out out (source_of m) (destination_of m) then Dropped else Kept
met_if out None = Kept

-- a packet that was kept is lost before the links meet it, where its message is left out here
abbrev pub fate_left : LeftOut → Fate → (unit : List ℕ) → Fate
fate_left out NotKept unit = NotKept
fate_left out Kept unit = met_if out (message_in_unit unit)
fate_left out Dropped unit = Dropped

abbrev pub record_left : Leaves → Record → Record
record_left leaves (Sent unit) = Sent (bytes_left leaves.packets.own unit)
record_left leaves (Received hint fate unit) = Received hint (fate_left leaves.out fate unit) (bytes_left leaves.packets.far unit)
record_left leaves (Noise bytes) = Noise bytes
record_left leaves (User event) = User (event_left leaves event)
