-- Which rows a record goes through, by the state and the numbers of its station before it.
use Rattle.std.specs.Prelude.{ℕ, ◌+◌, Bool, true, false, ◌==◌, if◌then◌else◌, Option, Some, None, List, [], ◌∷◌, ◌++◌, Result, Ok, Err}
use Rattle.std.specs.Option.{option_map, option_to_list}
use Rattle.ddcmp_msg.specs.Message.{MessageValue, Data, Ack, Nak, Rep, Strt, Stack}
use Rattle.ddcmp_msg.specs.Reading.{ReadingValue, reading, Sound, HeaderBad, DataBad, Malformed}
use Rattle.ddcmp_msg.specs.declared.nak_reason.NakReason.{NakReason}
use Rattle.ddcmp_msg.specs.declared.nak_reason.NakReason.TheVariants.{HeaderCheck, DataCheck, RepResponse, NoBuffer}
use Rattle.dna_packet.specs.Nsp.{NspValue, DataSegment, LinkService, DataAck, OtherDataAck, ConnectAck, NoOperation, ConnectInitiate, ConnectConfirm}
use Rattle.dna_packet.specs.Nsp.{DisconnectInitiate, DisconnectConfirm}
use Rattle.capture_record.specs.Fates.{is_kept}
use Rattle.capture_record.specs.declared.fate.Fate.{Fate}
use Rattle.capture_record.specs.declared.fate.Fate.TheVariants as fates
use Rattle.capture_record.specs.declared.record.Record.{Record}
use Rattle.capture_record.specs.declared.record.Record.TheVariants as records
use Rattle.capture_record.specs.declared.event.Event.{Event}
use Rattle.capture_record.specs.declared.event.Event.TheVariants as events
use Rattle.dna_station.specs.declared.state.State.{State}
use Rattle.dna_station.specs.declared.state.State.TheVariants.{Halted, Istrt, Astrt, Running}
use Rattle.dna_station.specs.declared.refusal.StepRefusal.{StepRefusal}
use Rattle.dna_station.specs.Station.{wire}
use Rattle.dna_station.specs.WireStation.{StationVariables}
use Rattle.dna_station.specs.WireBook.{wire_is_new}
use Rattle.dna_links.specs.Links.{Carried}
use Rattle.dna_node.specs.Content.{content}
use Rattle.coverage.specs.declared.row.Row.{Row}
use Rattle.coverage.specs.declared.row.Row.TheVariants.{Start, Halt, Sends, ToHalted, ToIstrt, ToAstrt, ToRunning, Damaged, Boot, LinkUser}
use Rattle.coverage.specs.declared.row.Row.TheVariants.{LinkSends, LinkGets, Lost}
use Rattle.coverage.specs.declared.row.Sending.TheVariants as sending
use Rattle.coverage.specs.declared.row.UnitKind.{UnitKind}
use Rattle.coverage.specs.declared.row.UnitKind.TheVariants as unit
use Rattle.coverage.specs.declared.row.AstrtArrival.{AstrtArrival}
use Rattle.coverage.specs.declared.row.AstrtArrival.TheVariants as astrt
use Rattle.coverage.specs.declared.row.RunningArrival.{RunningArrival}
use Rattle.coverage.specs.declared.row.RunningArrival.TheVariants as running
use Rattle.coverage.specs.declared.row.Damage.TheVariants as damage
use Rattle.coverage.specs.declared.row.LinkAct.TheVariants as act
use Rattle.coverage.specs.declared.row.Loss.TheVariants as loss
use Rattle.coverage.specs.declared.row.MessageKind.{MessageKind}
use Rattle.coverage.specs.declared.row.MessageKind.TheVariants as message

-- ---- a `u` line, or an `x` line

-- of the station: start in HALTED, halt and boot in every state
abbrev pub user_row : State → Event → Option Row
user_row Halted events.Start = Some Start
user_row state events.Start = None
user_row state events.Halt = Some (Halt state)
user_row state events.Boot = Some (Boot state)
user_row state event = None

-- of the links: their events, a boot, and a packet that is composed and never sent; interrupts are carried
abbrev pub link_row : Event → Option Row
link_row (events.Open link) = Some (LinkUser act.Open)
link_row (events.Accept partner link) = Some (LinkUser act.Accept)
link_row (events.Reject partner link) = Some (LinkUser act.Reject)
link_row (events.In link bytes) = Some (LinkUser act.In)
link_row (events.Up link bytes) = Some (LinkUser act.Up)
link_row (events.Close link) = Some (LinkUser act.Close)
link_row events.Boot = Some (LinkUser act.Boot)
link_row (events.Abort link) = Some (LinkUser act.Abort)
link_row (events.Composed bytes) = Some (Lost loss.Unsent)
link_row event = None

-- ---- an `s` line

-- NAKs by their reason
abbrev pub nak_row : NakReason → Row
nak_row HeaderCheck = Sends sending.NakOfCause
nak_row DataCheck = Sends sending.NakOfCause
nak_row RepResponse = Sends sending.NakOfCause
nak_row NoBuffer = Sends sending.NakOfCause
nak_row reason = Sends sending.OtherNak

-- data whose number, T, is N + 1 are new, and else they are sent again
abbrev pub data_row : (is_new : Bool) → Row
data_row true = Sends sending.NewData
data_row false = Sends sending.DataAgain

abbrev pub sent_row : State → (is_new : Bool) → MessageValue → Option Row
sent_row Istrt is_new (Strt flags) = Some (Sends sending.Strt)
sent_row Astrt is_new (Stack flags) = Some (Sends sending.Stack)
sent_row Running is_new (Ack flags resp) = Some (Sends sending.Ack)
sent_row Running is_new (Nak flags reason resp) = Some (nak_row reason)
sent_row Running is_new (Rep flags num) = Some (Sends sending.Rep)
sent_row Running is_new (Data flags resp num body) = Some (data_row is_new)
sent_row state is_new m = None

-- ---- an `r`, a `k` or a `d` line with the bytes of its unit

abbrev pub kind_of : MessageValue → UnitKind
kind_of (Strt flags) = unit.Strt
kind_of (Stack flags) = unit.Stack
kind_of (Ack flags resp) = unit.Ack
kind_of (Nak flags reason resp) = unit.Nak
kind_of (Rep flags num) = unit.Rep
kind_of (Data flags resp num body) = unit.Data

-- data with the number after the last received, whose packet is kept or for which no buffer is left, or data with another number
abbrev pub astrt_data : (is_next kept : Bool) → AstrtArrival
astrt_data true true = astrt.Kept
astrt_data true false = astrt.NoBuffer
astrt_data false kept = astrt.RepeatOrGap

abbrev pub astrt_row : (received : ℕ) → (kept : Bool) → MessageValue → AstrtArrival
astrt_row received kept (Strt flags) = astrt.Strt
astrt_row received kept (Stack flags) = astrt.Stack
astrt_row received kept (Ack flags resp) = if resp == 0 then astrt.AckOfNone else astrt.AckOfSome
astrt_row received kept (Nak flags reason resp) = astrt.Nak
astrt_row received kept (Rep flags num) = astrt.Rep
astrt_row received kept (Data flags resp num body) = if resp == 0 then astrt_data (num == wire (received + 1)) kept else astrt.DataOfSome

abbrev pub running_data : (is_next kept : Bool) → RunningArrival
running_data true true = running.Kept
running_data true false = running.NoBuffer
running_data false kept = running.RepeatOrGap

abbrev pub rep_row : (is_last : Bool) → RunningArrival
rep_row true = running.RepOfLast
rep_row false = running.RepOfOther

abbrev pub running_row : (received : ℕ) → (kept : Bool) → MessageValue → RunningArrival
running_row received kept (Strt flags) = running.Strt
running_row received kept (Stack flags) = running.Stack
running_row received kept (Ack flags resp) = running.Ack
running_row received kept (Nak flags reason resp) = running.Nak
running_row received kept (Rep flags num) = rep_row (num == received)
running_row received kept (Data flags resp num body) = running_data (num == wire (received + 1)) kept

-- by R, the last number received in order, and by whether the packet was kept
abbrev pub arrival_row : State → (received : ℕ) → (kept : Bool) → MessageValue → Row
arrival_row Halted received kept m = ToHalted (kind_of m)
arrival_row Istrt received kept m = ToIstrt (kind_of m)
arrival_row Astrt received kept m = ToAstrt (astrt_row received kept m)
arrival_row Running received kept m = ToRunning (running_row received kept m)

-- ---- other bytes than those of a unit, or an `n` line

abbrev pub damage_row : State → ReadingValue → Option Row
damage_row state HeaderBad = Some (Damaged state damage.Header)
damage_row state DataBad = Some (Damaged state damage.Data)
damage_row state (Sound m) = None
damage_row state (Malformed departure) = None

-- ---- the message of the links that a packet carries, if it carries one

abbrev pub service_kind : (interrupt : Bool) → MessageKind
service_kind true = message.Interrupt
service_kind false = message.LinkService

abbrev pub message_kind : NspValue → MessageKind
message_kind (ConnectInitiate retransmitted src services info segsize user_data) = message.ConnectInitiate
message_kind (ConnectAck dst) = message.ConnectAck
message_kind (ConnectConfirm dst src services info segsize user_data) = message.ConnectConfirm
message_kind (DisconnectInitiate dst src reason user_data) = message.DisconnectInitiate
message_kind (DisconnectConfirm dst src reason) = message.DisconnectConfirm
message_kind (DataSegment segment) = message.Segment
message_kind (DataAck dst src acks) = message.DataAck
message_kind (LinkService interrupt dst src rest) = service_kind interrupt
message_kind (OtherDataAck dst src rest) = message.OtherDataAck
message_kind (NoOperation rest) = message.NoOperation

-- no routing control packet, and none on its way back
abbrev pub carried_kind : Result (Option Carried) StepRefusal → Option MessageKind
carried_kind (Ok (Some packet)) = Some (message_kind packet.message)
carried_kind (Ok None) = None
carried_kind (Err refusal) = None

-- of data that are new
abbrev pub link_sends : (is_new : Bool) → MessageValue → Option Row
link_sends true (Data flags resp num body) = option_map (λ (kind : MessageKind). LinkSends kind) (carried_kind (content body))
link_sends is_new m = None

-- of data whose packet was kept: the links met it, or it was lost above the station
abbrev pub link_gets : Fate → MessageValue → Option Row
link_gets fates.Kept (Data flags resp num body) = option_map (λ (kind : MessageKind). LinkGets kind) (carried_kind (content body))
link_gets fates.Dropped m = Some (Lost loss.Above)
link_gets fate m = None

-- ---- a record

module _ {L : Type 0} (k : StationVariables L) where
  -- that of the station, and that of the links, if there is one
  abbrev pub sent_rows : ReadingValue → List Row
  sent_rows (Sound m) = option_to_list (sent_row k.state (wire_is_new k) m) ++ option_to_list (link_sends (wire_is_new k) m)
  sent_rows bad = []

  abbrev pub received_rows : Fate → ReadingValue → List Row
  received_rows fate (Sound m) = arrival_row k.state k.received (is_kept fate) m ∷ option_to_list (link_gets fate m)
  received_rows fate bad = option_to_list (damage_row k.state bad)

  abbrev pub record_rows : Record → List Row
  record_rows (records.Sent bytes) = sent_rows (reading bytes)
  record_rows (records.Received hint fate bytes) = received_rows fate (reading bytes)
  record_rows (records.Noise bytes) = option_to_list (damage_row k.state (reading bytes))
  record_rows (records.User event) = option_to_list (user_row k.state event) ++ option_to_list (link_row event)
