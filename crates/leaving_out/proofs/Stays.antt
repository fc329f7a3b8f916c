-- Where nothing is left out, all stays.
use Rattle.std.proofs.Common.{◌≡◌, ℕ, Bool, true, false, cond, List, [], Option, Some, None, Result, Ok, Err, refl, sym, ap, ap₂, ◌∙◌}
use Rattle.wire_base.specs.declared.side.Side.{Side}
use Rattle.wire_base.specs.Side.{other_side}
use Rattle.ddcmp_msg.specs.Message as messages
use Rattle.ddcmp_msg.specs.Message.{IsBytes}
use Rattle.ddcmp_msg.specs.Reading.{ReadingValue, Sound, HeaderBad, DataBad, Malformed, reading}
use Rattle.dna_packet.specs.declared.fault.PacketFault.{PacketFault}
use Rattle.dna_packet.specs.declared.fault.NspFault.{NspFault}
use Rattle.dna_packet.specs.Packet.{PacketValue, Data, Control}
use Rattle.dna_packet.specs.ReadingPacket.{packet_at}
use Rattle.dna_packet.specs.Nsp.{NspValue}
use Rattle.dna_packet.specs.ReadingNsp.{nsp_at}
use Rattle.capture_record.specs.declared.event.Event.{Event}
use Rattle.capture_record.specs.declared.event.Event.TheVariants as events
use Rattle.capture_record.specs.declared.fate.Fate.{Fate}
use Rattle.capture_record.specs.declared.fate.Fate.TheVariants.{NotKept, Kept, Dropped}
use Rattle.capture_record.specs.declared.record.Record.{Record}
use Rattle.capture_record.specs.declared.record.Record.TheVariants.{Sent, Received, Noise, User}
use Rattle.capture_record.specs.Range.{IsRecord}
use Rattle.link_groups.specs.declared.own_address.OwnAddress.{OwnAddress}
use Rattle.leaving_out.specs.declared.leaving.Leaving.{Leaving}
use Rattle.leaving_out.specs.declared.packet_left.Route.{Route}
use Rattle.leaving_out.specs.Addresses.{LeavesNothing, at_receiver, at_sender, head_of, is_left, own}
use Rattle.leaving_out.specs.About.{about_at_receiver}
use Rattle.leaving_out.specs.Messages.{destination_of, is_returned, message_in_unit, source_of}
use Rattle.leaving_out.specs.Packets.{carried, link_left, unmet, message_left, packet_left, packet_left_by, route_of, unit_left, unit_left_by}
use Rattle.leaving_out.specs.Records.{dropped_if_left, event_left, fate_left, record_left}
use Rattle.leaving_out.proofs.Kept.{unit_stays}

module _ (leaving : Leaving) (nothing : LeavesNothing leaving) where
  same_if : (b : Bool) (x y z : List ℕ) → y ≡ z → b ≡ false → cond b x y ≡ z
  same_if b x y z same e = ap (λ (t : Bool). cond t x y) e ∙ same

  message_same : (sender : Side) (route : Route) (packet : List ℕ) (r : Result NspValue NspFault) →
      message_left leaving sender route packet r ≡ packet
  message_same sender route packet (Err fault) = same_if leaving.unread_messages (carried packet) packet packet refl nothing.messages
  message_same sender route packet (Ok m) =
      same_if (is_left leaving (at_sender sender (source_of m) (destination_of m)))
      (cond (is_left leaving (at_receiver sender (source_of m) (destination_of m))) (unmet packet)
      (link_left (head_of leaving sender) route packet m))
      packet packet
      refl (nothing.none (at_sender sender (source_of m) (destination_of m)))

  same_by : (sender : Side) (packet : List ℕ) (r : Result PacketValue PacketFault) → packet_left_by leaving sender packet r ≡ packet
  same_by sender packet (Err fault) = same_if leaving.unread_packets (carried packet) packet packet refl nothing.packets
  same_by sender packet (Ok (Control bytes)) = refl
  same_by sender packet (Ok (Data rtflg dst src forward nsp)) = by_test (is_returned rtflg)
    where
      by_test : (b : Bool) → cond b packet (message_left leaving sender (route_of rtflg dst src forward) packet (nsp_at nsp)) ≡ packet
      by_test true = refl
      by_test false = message_same sender (route_of rtflg dst src forward) packet (nsp_at nsp)

  packet_same : (sender : Side) (packet : List ℕ) → packet_left leaving sender packet ≡ packet
  packet_same sender packet = same_by sender packet (packet_at packet)

  unit_same_by : (sender : Side) (unit : List ℕ) (r : ReadingValue) → IsBytes unit → reading unit ≡ r → unit_left leaving sender unit ≡ unit
  unit_same_by sender unit (Sound (messages.Data flags resp num body)) fits e =
      sym (unit_stays leaving sender unit fits flags resp num body e (packet_same sender body))
  unit_same_by sender unit (Sound (messages.Ack flags resp)) fits e = ap (unit_left_by leaving sender unit) e
  unit_same_by sender unit (Sound (messages.Nak flags reason resp)) fits e = ap (unit_left_by leaving sender unit) e
  unit_same_by sender unit (Sound (messages.Rep flags num)) fits e = ap (unit_left_by leaving sender unit) e
  unit_same_by sender unit (Sound (messages.Strt flags)) fits e = ap (unit_left_by leaving sender unit) e
  unit_same_by sender unit (Sound (messages.Stack flags)) fits e = ap (unit_left_by leaving sender unit) e
  unit_same_by sender unit HeaderBad fits e = ap (unit_left_by leaving sender unit) e
  unit_same_by sender unit DataBad fits e = ap (unit_left_by leaving sender unit) e
  unit_same_by sender unit (Malformed departure) fits e = ap (unit_left_by leaving sender unit) e

  unit_same : (sender : Side) (unit : List ℕ) → IsBytes unit → unit_left leaving sender unit ≡ unit
  unit_same sender unit fits = unit_same_by sender unit (reading unit) fits refl

  kept_same : (o : Option OwnAddress) → dropped_if_left leaving o ≡ Kept
  kept_same (Some address) = ap (λ (b : Bool). cond b Dropped Kept) (nothing.none address)
  kept_same None = refl

  fate_same : (side : Side) (fate : Fate) (unit : List ℕ) → fate_left leaving side fate unit ≡ fate
  fate_same side NotKept unit = refl
  fate_same side Kept unit = kept_same (about_at_receiver (other_side side) (message_in_unit unit))
  fate_same side Dropped unit = refl

  link_same : (side : Side) (link : ℕ) (event : Event) → cond (is_left leaving (own side link)) (events.Interrupt link []) event ≡ event
  link_same side link event = ap (λ (b : Bool). cond b (events.Interrupt link []) event) (nothing.none (own side link))

  event_same : (side : Side) (event : Event) → event_left leaving side event ≡ event
  event_same side events.Start = refl
  event_same side events.Halt = refl
  event_same side (events.Open link) = link_same side link (events.Open link)
  event_same side (events.Accept partner link) = link_same side link (events.Accept partner link)
  event_same side (events.Reject partner link) = link_same side link (events.Reject partner link)
  event_same side (events.In link bytes) = link_same side link (events.In link bytes)
  event_same side (events.Up link bytes) = link_same side link (events.Up link bytes)
  event_same side (events.Close link) = link_same side link (events.Close link)
  event_same side events.Boot = refl
  event_same side (events.Abort link) = link_same side link (events.Abort link)
  event_same side (events.Composed packet) = ap events.Composed (packet_same side packet)
  event_same side (events.Interrupt link bytes) = link_same side link (events.Interrupt link bytes)
  event_same side (events.Interrupted link bytes) = link_same side link (events.Interrupted link bytes)

  one_same : (side : Side) (r : Record) → IsRecord r → record_left leaving side r ≡ r
  one_same side (Sent unit) fits = ap Sent (unit_same side unit fits.spelling.bytes)
  one_same side (Received hint fate unit) fits =
      ap₂ (λ (f : Fate) (u : List ℕ). Received hint f u) (fate_same side fate unit) (unit_same (other_side side) unit fits.spelling.bytes)
  one_same side (Noise bytes) fits = refl
  one_same side (User event) fits = ap User (event_same side event)

pub record_stays : (leaving : Leaving) (side : Side) (r : Record) → LeavesNothing leaving → IsRecord r → record_left leaving side r ≡ r
record_stays leaving side r nothing fits = one_same leaving nothing side r fits
