-- What a packet carries for the links of a node (Routing Layer 2.0, packet formats). Routing control packets and packets that are marked returned
-- are carried and not read: this project's own.
use Rattle.std.specs.Prelude.{ℕ, ◌/◌, ◌%◌, Bool, ◌==◌, if◌then◌else◌, Option, Some, None, List, Result, Ok, Err}
use Rattle.capture_record.specs.declared.event.Event.{Event}
use Rattle.capture_record.specs.declared.event.Event.TheVariants as events
use Rattle.dna_packet.specs.declared.fault.PacketFault.{PacketFault}
use Rattle.dna_packet.specs.declared.fault.NspFault.{NspFault}
use Rattle.dna_packet.specs.Packet.{PacketValue, Data, Control}
use Rattle.dna_packet.specs.Nsp.{NspValue}
use Rattle.dna_packet.specs.ReadingPacket.{packet_at}
use Rattle.dna_packet.specs.ReadingNsp.{nsp_at}
use Rattle.dna_station.specs.declared.refusal.StepRefusal.{StepRefusal}
use Rattle.dna_station.specs.declared.refusal.StepRefusal.TheVariants.{BadPacket, BadNsp}
use Rattle.dna_links.specs.Links.{Carried}
use Rattle.dna_links.specs.User.{LinkEventValue, Open, Accept, Reject, In, Up, Close, Boot, Abort}

-- bit 4 of RTFLG: the packet is on its way back to its source
abbrev pub is_returned : ℕ → Bool
is_returned rtflg = rtflg / 16 % 2 == 1

-- a message that can be read, else 17
abbrev pub message_in : (dst src : ℕ) → Result NspValue NspFault → Result (Option Carried) StepRefusal
message_in dst src (Ok m) = Ok (Some (record { dst = dst; src = src; message = m }))
message_in dst src (Err fault) = Err BadNsp

-- a packet that can be read, else 15; None where it has no message of the links
abbrev pub content_of : Result PacketValue PacketFault → Result (Option Carried) StepRefusal
content_of (Ok (Data rtflg dst src forward nsp)) = if is_returned rtflg then Ok None else message_in dst src (nsp_at nsp)
content_of (Ok (Control bytes)) = Ok None
content_of (Err fault) = Err BadPacket

abbrev pub content : List ℕ → Result (Option Carried) StepRefusal
content packet = content_of (packet_at packet)

-- What an event is to the links; None where it is the station's alone, or none that is judged. What is composed is met as a message that is sent
abbrev pub link_event : Event → Option LinkEventValue
link_event events.Start = None
link_event events.Halt = None
link_event (events.Open link) = Some (Open link)
link_event (events.Accept partner link) = Some (Accept partner link)
link_event (events.Reject partner link) = Some (Reject partner link)
link_event (events.In link message) = Some (In link message)
link_event (events.Up link message) = Some (Up link message)
link_event (events.Close link) = Some (Close link)
link_event events.Boot = Some Boot
link_event (events.Abort link) = Some (Abort link)
link_event (events.Composed packet) = None
link_event (events.Interrupt link message) = None
link_event (events.Interrupted link message) = None
