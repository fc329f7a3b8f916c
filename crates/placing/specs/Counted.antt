-- What the words of the station's tables mean for the numbers that the search keeps of a side's station: a further book over them. Of the
-- packets it keeps how many there are, and of the open causes those of reasons 3 and 8. That it says what `WireBook` says is a law.
use Rattle.std.specs.Prelude.{ℕ, ◌+◌, ◌-◌, ◌<◌, ◌≤◌, Bool, true, false, ◌&&◌, not, ◌==◌, nat_lt, nat_le, if◌then◌else◌, min, Some, None}
use Rattle.std.specs.Prelude.{[], length, slice_get}
use Rattle.wire_base.specs.Seq.{wire_distance}
use Rattle.ddcmp_msg.specs.Message.{MessageValue, Data, Ack, Nak, Rep, Strt, Stack, flags_of}
use Rattle.ddcmp_msg.specs.declared.nak_reason.NakReason.{NakReason}
use Rattle.ddcmp_msg.specs.declared.nak_reason.NakReason.TheVariants.{HeaderCheck, DataCheck, RepResponse, NoBuffer}
use Rattle.dna_station.specs.declared.state.State.{State}
use Rattle.dna_station.specs.declared.state.StationEvent.{StationEvent}
use Rattle.dna_station.specs.declared.state.StationEvent.TheVariants.{Start, Halt}
use Rattle.dna_station.specs.declared.tag.Tag.{Tag}
use Rattle.dna_station.specs.NakCauses.{Causes}
use Rattle.dna_station.specs.Table.{WINDOW, Check, RespIsLast, CauseIsOpen, SomeOutstanding, NumIsHighest, NumIsNext, RoomIfNew, AsFirstGiven}
use Rattle.dna_station.specs.Table.{Change, Nothing, UseCause, SendPacket, Effect, GoTo, TakePartner, Respond, SetBack, TakePacket, AnswerRep}
use Rattle.dna_station.specs.Table.{state_after}
use Rattle.dna_station.specs.Station.{wire}
use Rattle.dna_station.specs.Book.{Book, resp_of, num_of, body_of}
use Rattle.dna_station.specs.WireStation.{WireStation}
use Rattle.dna_station.specs.WireBook.{is_held_packet}
use Rattle.placing.specs.declared.station.Station.{Station}

-- in this state and period, with no partner, and no number received, given or acknowledged
abbrev pub fresh : State → ℕ → Station
fresh state period = record {
  state = state;
  period = period;
  partner = None;
  received = 0;
  acknowledged = 0;
  outstanding = 0;
  ahead = 0;
  answers = 0;
  refused = 0;
}

abbrev pub own_tag : Station → Tag
own_tag s = record { period = s.period; partner = s.partner }

-- ---- what the user does

abbrev pub after_event : Station → StationEvent → Station
after_event s Start = fresh (state_after Start) (s.period + 1)
after_event s Halt = record s { state = state_after Halt }

-- ---- causes

-- counts of causes stop at the highest number of 32 bits
abbrev pub MOST_CAUSES : ℕ
MOST_CAUSES = 4294967295

abbrev pub next_cause : ℕ → ℕ
next_cause count = min (count + 1) MOST_CAUSES

-- One cause more. Those of damage are not counted: noise may come at any time, and give one.
abbrev pub with_cause : NakReason → Station → Station
with_cause RepResponse s = record s { answers = next_cause s.answers }
with_cause NoBuffer s = record s { refused = next_cause s.refused }
with_cause reason s = s

abbrev pub has_cause : NakReason → Station → Bool
has_cause RepResponse s = nat_lt 0 s.answers
has_cause NoBuffer s = nat_lt 0 s.refused
has_cause reason s = true

abbrev pub without_cause : NakReason → Station → Station
without_cause RepResponse s = record s { answers = s.answers - 1 }
without_cause NoBuffer s = record s { refused = s.refused - 1 }
without_cause reason s = s

-- ---- what is sent

abbrev pub may_nak : MessageValue → Station → Bool
may_nak (Nak flags reason resp) s = has_cause reason s
may_nak m s = true

abbrev pub after_nak : MessageValue → Station → Station
after_nak (Nak flags reason resp) s = without_cause reason s
after_nak m s = s

-- the next data to send are new
abbrev pub is_new : Station → Bool
is_new s = s.ahead == s.outstanding

-- Whether these data are those of the first sending no number tells: the search has it from the bytes that passed.
abbrev pub passes : Bool → Station → MessageValue → Check → Bool
passes again s m RespIsLast = resp_of m == s.received
passes again s m CauseIsOpen = may_nak m s
passes again s m SomeOutstanding = not (s.outstanding == 0)
passes again s m NumIsHighest = num_of m == wire (s.acknowledged + s.outstanding)
passes again s m NumIsNext = num_of m == wire (s.acknowledged + 1 + s.ahead)
passes again s m RoomIfNew = if is_new s then nat_lt s.outstanding WINDOW else true
passes again s m AsFirstGiven = if is_new s then true else again

-- counts of packets stop at 255; no more are outstanding
abbrev pub next_count : ℕ → ℕ
next_count count = min (count + 1) 255

abbrev pub with_packet : Bool → Station → Station
with_packet true s = record s { ahead = next_count s.ahead; outstanding = next_count s.outstanding }
with_packet false s = record s { ahead = next_count s.ahead }

abbrev pub sends : Station → MessageValue → Change → Station
sends s m Nothing = s
sends s m UseCause = after_nak m s
sends s m SendPacket = with_packet (is_new s) s

-- ---- what comes

abbrev pub acknowledges : Station → ℕ → ℕ
acknowledges s resp = wire_distance 256 s.acknowledged resp

abbrev pub acknowledged_by : Bool → Station → ℕ → Station
acknowledged_by true s resp =
    record s { acknowledged = resp; outstanding = s.outstanding - acknowledges s resp; ahead = s.ahead - acknowledges s resp }
acknowledged_by false s resp = s

abbrev pub responded : Station → ℕ → Station
responded s resp = acknowledged_by (nat_lt 0 (acknowledges s resp) && nat_le (acknowledges s resp) s.outstanding) s resp

abbrev pub is_next : Station → ℕ → Bool
is_next s num = num == wire (s.received + 1)

abbrev pub with_data : (next kept : Bool) → Station → Station
with_data true true s = record s { received = wire (s.received + 1) }
with_data true false s = with_cause NoBuffer s
with_data false kept s = s

abbrev pub asked : Bool → Station → Station
asked true s = s
asked false s = with_cause RepResponse s

abbrev pub does : MessageValue → Tag → Bool → Station → Effect → Station
does m tag kept s (GoTo state) = record s { state = state }
does m tag kept s TakePartner = record s { partner = Some tag.period }
does m tag kept s Respond = responded s (resp_of m)
does m tag kept s SetBack = record s { ahead = 0 }
does m tag kept s TakePacket = with_data (is_next s (num_of m)) kept s
does m tag kept s AnswerRep = asked (num_of m == s.received) s

-- ---- the station

-- where data that are sent again are those of the first sending, or not
abbrev pub counted_book : (again : Bool) → Book Station Tag
counted_book again = record {
  state = λ (s : Station). s.state;
  after_event = after_event;
  passes = passes again;
  sends = sends;
  known = λ (before after : Station) (m : MessageValue). own_tag before;
  tag = own_tag;
  tag_of = λ (tag : Tag). tag;
  is_next = λ (s : Station) (m : MessageValue) (tag : Tag). is_next s (num_of m);
  does = does;
  counts = with_cause;
}

-- ---- what it is kept of

-- of a station as a node keeps it
abbrev pub counted : {L : Type 0} → WireStation L → Station
counted w = record {
  state = w.variables.state;
  period = w.period;
  partner = w.partner;
  received = w.variables.received;
  acknowledged = w.variables.acknowledged;
  outstanding = length w.variables.held;
  ahead = w.variables.ahead;
  answers = min w.causes.rep_response MOST_CAUSES;
  refused = min w.causes.no_buffer MOST_CAUSES;
}

-- whether the data of this message are those of the first sending of the packet that is next to send
abbrev pub is_again : {L : Type 0} → WireStation L → MessageValue → Bool
is_again w m = is_held_packet (slice_get w.variables.held w.variables.ahead) (body_of m)

-- if this is a NAK for damage, a cause of its reason is open
abbrev pub DamageIsOpen : MessageValue → Causes → Type 0
DamageIsOpen (Nak flags HeaderCheck resp) c = 0 < c.header_check
DamageIsOpen (Nak flags DataCheck resp) c = 0 < c.data_check
DamageIsOpen m c = Unit {0}

-- the numbers that a station keeps in a run, with no more open causes than are counted
pub record IsCounted {L : Type 0} (w : WireStation L) : Type 0 where
  pub outstanding : length w.variables.held ≤ 255
  pub ahead : w.variables.ahead ≤ length w.variables.held
  pub answers : w.causes.rep_response ≤ MOST_CAUSES
  pub refused : w.causes.no_buffer ≤ MOST_CAUSES

-- a message without its flags and its packet
abbrev pub bare : MessageValue → MessageValue
bare (Data flags resp num body) = Data (flags_of 0) resp num []
bare (Ack flags resp) = Ack (flags_of 0) resp
bare (Nak flags reason resp) = Nak (flags_of 0) reason resp
bare (Rep flags num) = Rep (flags_of 0) num
bare (Strt flags) = Strt (flags_of 0)
bare (Stack flags) = Stack (flags_of 0)
