-- Captures whose heads do not fit each other, as ones whose heads do: so that what an end sends of a link that is left out still acts at the other.
use Rattle.std.specs.Prelude.{◌≡◌, ℕ, ◌==◌, ◌&&◌, ◌⊎◌, not, Bool, false, if◌then◌else◌, List, [], ◌∷◌, ◌++◌, Option, Result, Ok, Err}
use Rattle.std.specs.Global.{Vec}
use Rattle.wire_base.specs.declared.side.Side.{Side}
use Rattle.wire_base.specs.declared.side.Side.TheVariants.{A, B}
use Rattle.wire_base.specs.Side.{other_side}
use Rattle.ddcmp_msg.specs.Message as messages
use Rattle.ddcmp_msg.specs.Reading.{ReadingValue, Sound, HeaderBad, DataBad, Malformed, reading}
use Rattle.ddcmp_msg.specs.Spelling.{spelling}
use Rattle.capture_record.specs.declared.event.Event.{Event}
use Rattle.capture_record.specs.declared.event.Event.TheVariants as events
use Rattle.capture.specs.declared.fault.CaptureFault.{CaptureFault}
use Rattle.capture.specs.declared.fault.CaptureFault.TheVariants.{Departs, Read, OutOfMemory, Failed}
use Rattle.capture.specs.declared.fault.Departure.{Departure}
use Rattle.capture.specs.declared.format.Format.TheVariants.{Three}
use Rattle.capture_record.specs.declared.record.Record.{Record}
use Rattle.capture_record.specs.declared.record.Record.TheVariants.{Sent, Received, Noise, User}
use Rattle.capture.specs.SoFar.{ReadSoFar, TheEnd, IsReadSoFar, HeadDepartsAt}
use Rattle.capture.specs.Text.{capture_text}
use Rattle.dna_packet.specs.declared.fault.PacketFault.{PacketFault}
use Rattle.dna_packet.specs.declared.fault.NspFault.{NspFault}
use Rattle.dna_packet.specs.Packet.{PacketValue, Data, Control, packet_bytes}
use Rattle.dna_packet.specs.ReadingPacket.{packet_at}
use Rattle.dna_packet.specs.Nsp.{NspValue}
use Rattle.dna_packet.specs.ReadingNsp.{nsp_at}
use Rattle.leaving_out.specs.declared.leaving.Head.{Head}
use Rattle.leaving_out.specs.declared.leaving.Leaving.{Leaving}
use Rattle.leaving_out.specs.declared.packet_left.Route.{Route}
use Rattle.leaving_out.specs.Addresses.{at_sender, head_of, is_left}
use Rattle.leaving_out.specs.Messages.{destination_of, is_returned, source_of}
use Rattle.leaving_out.specs.Packets.{route_of}
use Rattle.leaving_out.specs.Texts.{DepartsNext, departing}

-- a head, seen from the other end
abbrev pub reversed : Head → Head
reversed head = record { own = head.peer; peer = head.own }

-- both heads fit each other, as those of a pair do
abbrev pub heads_fit : Leaving → Bool
heads_fit leaving = (leaving.head_of_b.peer == leaving.head_of_a.own) && (leaving.head_of_b.own == leaving.head_of_a.peer)

-- The head of this side's capture, where the other one's stays
abbrev pub head_seen : Leaving → Side → Head
head_seen leaving side = reversed (head_of leaving (other_side side))

-- and where that of the `kept` side stays
abbrev pub head_fitted : Leaving → (kept side : Side) → Head
head_fitted leaving A A = leaving.head_of_a
head_fitted leaving A B = reversed leaving.head_of_a
head_fitted leaving B A = reversed leaving.head_of_b
head_fitted leaving B B = leaving.head_of_b

-- ---- packets

-- from the node of this head to its peer
abbrev pub goes_from : Head → Route → Bool
goes_from head route = (route.src == head.own) && (route.dst == head.peer)

abbrev pub between : Head → Route → Route
between head route = record { rtflg = route.rtflg; dst = head.peer; src = head.own; forward = route.forward }

-- what goes between the nodes of the one head goes between those of the other, and the reverse
abbrev pub exchanged : (one other : Head) → Route → Route
exchanged one other route =
    if goes_from one route then between other route else (if goes_from other route then between one route else route)

-- of a packet that this side sent: the nodes of the sender's head, and those that the receiver's has
abbrev pub route_fitted : Leaving → Side → Route → Route
route_fitted leaving sender route = exchanged (head_of leaving sender) (head_seen leaving sender) route

-- Of the kept side those that its own end leaves out, since they go by the other one's head from now on; of the other side those that its own end
-- judges
abbrev pub is_moved_by : (kept sender : Side) → (is_left : Bool) → Bool
is_moved_by A A is_left = is_left
is_moved_by A B is_left = not is_left
is_moved_by B A is_left = not is_left
is_moved_by B B is_left = is_left

abbrev pub is_moved : Leaving → (kept sender : Side) → Result NspValue NspFault → Bool
is_moved leaving kept sender (Ok m) = is_moved_by kept sender (is_left leaving (at_sender sender (source_of m) (destination_of m)))
is_moved leaving kept sender (Err fault) = false

-- the packet of this message, with this header but for the addresses of another
abbrev pub packet_on : (route made : Route) → List ℕ → List ℕ
packet_on route made nsp = packet_bytes (Data route.rtflg made.dst made.src route.forward nsp)

abbrev pub packet_fitted_by : Leaving → (kept sender : Side) → List ℕ → Result PacketValue PacketFault → List ℕ
packet_fitted_by leaving kept sender packet (Err fault) = packet
packet_fitted_by leaving kept sender packet (Ok (Control bytes)) = packet
packet_fitted_by leaving kept sender packet (Ok (Data rtflg dst src forward nsp)) =
    if is_returned rtflg then packet else (
    if is_moved leaving kept sender (nsp_at nsp)
    then packet_on (route_of rtflg dst src forward) (route_fitted leaving sender (route_of rtflg dst src forward)) nsp else packet)

-- what becomes of a packet that this side sent
abbrev pub packet_fitted : Leaving → (kept sender : Side) → List ℕ → List ℕ
packet_fitted leaving kept sender packet = packet_fitted_by leaving kept sender packet (packet_at packet)

-- ---- units and records

abbrev pub unit_fitted_by : Leaving → (kept sender : Side) → List ℕ → ReadingValue → List ℕ
unit_fitted_by leaving kept sender unit (Sound (messages.Data flags resp num body)) =
    spelling (messages.Data flags resp num (packet_fitted leaving kept sender body))
unit_fitted_by leaving kept sender unit (Sound (messages.Ack flags resp)) = unit
unit_fitted_by leaving kept sender unit (Sound (messages.Nak flags reason resp)) = unit
unit_fitted_by leaving kept sender unit (Sound (messages.Rep flags num)) = unit
unit_fitted_by leaving kept sender unit (Sound (messages.Strt flags)) = unit
unit_fitted_by leaving kept sender unit (Sound (messages.Stack flags)) = unit
unit_fitted_by leaving kept sender unit HeaderBad = unit
unit_fitted_by leaving kept sender unit DataBad = unit
unit_fitted_by leaving kept sender unit (Malformed departure) = unit

-- what becomes of a unit that this side sent: its block checks are made anew
abbrev pub unit_fitted : Leaving → (kept sender : Side) → List ℕ → List ℕ
unit_fitted leaving kept sender unit = unit_fitted_by leaving kept sender unit (reading unit)

abbrev pub event_fitted : Leaving → (kept side : Side) → Event → Event
event_fitted leaving kept side (events.Composed packet) = events.Composed (packet_fitted leaving kept side packet)
event_fitted leaving kept side event = event

abbrev pub record_fitted : Leaving → (kept side : Side) → Record → Record
record_fitted leaving kept side (Sent unit) = Sent (unit_fitted leaving kept side unit)
record_fitted leaving kept side (Received hint fate unit) = Received hint fate (unit_fitted leaving kept (other_side side) unit)
record_fitted leaving kept side (Noise bytes) = Noise bytes
record_fitted leaving kept side (User event) = User (event_fitted leaving kept side event)

abbrev pub records_fitted : Leaving → (kept side : Side) → List Record → List Record
records_fitted leaving kept side [] = []
records_fitted leaving kept side (r ∷ rs) = record_fitted leaving kept side r ∷ records_fitted leaving kept side rs

-- ---- the text

abbrev pub text_fitted : Leaving → (kept side : Side) → ReadSoFar → List ℕ
text_fitted leaving kept side read =
    capture_text Three (head_fitted leaving kept side).own (head_fitted leaving kept side).peer (records_fitted leaving kept side read.records)

-- The text that was made of a text: of all its records; and where this departs, a line that departs in the same way.
abbrev pub FittedOf : Leaving → (kept side : Side) → ReadSoFar → List ℕ → Type 0
FittedOf leaving kept side read made =
    ((read.behind ≡ TheEnd) × (made ≡ text_fitted leaving kept side read))
    ⊎ ((kind : Departure) × DepartsNext read kind × (made ≡ text_fitted leaving kept side read ++ departing kind))

-- What is made of this text. Only its head's departure is answered as one; a failed read, and want of memory, as such.
abbrev pub Fits : Leaving → (kept side : Side) → Option (List ℕ) → Result (Vec ℕ) CaptureFault → Type 0
Fits leaving kept side text (Ok made) = (read : ReadSoFar) × IsReadSoFar text read × FittedOf leaving kept side read made.items
Fits leaving kept side text (Err (Departs kind line)) = HeadDepartsAt text kind line
Fits leaving kept side text (Err Read) = Unit {0}
Fits leaving kept side text (Err OutOfMemory) = Unit {0}
Fits leaving kept side text (Err Failed) = ⊥
