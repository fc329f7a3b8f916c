-- What the words of the tables mean on true numbers. NUM and RESP of a message that comes are the numbers of its truth.
use Rattle.std.specs.Prelude.{ℕ, ◌+◌, ◌-◌, Bool, true, false, ◌&&◌, not, ◌==◌, nat_lt, nat_le, max, if◌then◌else◌, Option, Some, None, List, [], ◌∷◌}
use Rattle.std.specs.Prelude.{◌++◌, slice_get}
use Rattle.std.specs.Str.{bytes_eq}
use Rattle.ddcmp_msg.specs.Message.{MessageValue}
use Rattle.ddcmp_msg.specs.declared.nak_reason.NakReason.TheVariants.{RepResponse, NoBuffer}
use Rattle.dna_station.specs.declared.refusal.StationRefusal.{StationRefusal}
use Rattle.dna_station.specs.NakCauses.{with_cause, may_nak, after_nak}
use Rattle.dna_station.specs.Table.{WINDOW, Check, RespIsLast, CauseIsOpen, SomeOutstanding, NumIsHighest, NumIsNext, RoomIfNew, AsFirstGiven}
use Rattle.dna_station.specs.Table.{Change, Nothing, UseCause, SendPacket, change_of, Effect, GoTo, TakePartner, Respond, SetBack, TakePacket}
use Rattle.dna_station.specs.Table.{AnswerRep}
use Rattle.dna_station.specs.PeriodRule.{PeriodRule}
use Rattle.dna_station.specs.Station.{Station, given, wire, after_event}
use Rattle.dna_station.specs.Truth.{Truth, tag_of, truth_after}
use Rattle.dna_station.specs.Book.{Book, ArrivalValue, resp_of, num_of, body_of, sending_refusal_by, after_sending_by, arrival_refusal_by}
use Rattle.dna_station.specs.Book.{after_arrival_by, meets_by, takes_by}

-- ---- checks

-- the next data message has a number that was not given yet
abbrev pub is_new : Station → Bool
is_new s = s.next_to_send == given s + 1

-- fewer are outstanding than may be
abbrev pub has_room : Station → Bool
has_room s = nat_lt (given s - s.acknowledged) WINDOW

-- data as first given
abbrev pub is_packet : Option (List ℕ) → List ℕ → Bool
is_packet None body = false
is_packet (Some packet) body = bytes_eq body packet

abbrev pub as_first_given : Station → List ℕ → Bool
as_first_given s body = is_packet (slice_get s.packets (s.next_to_send - 1)) body

abbrev pub passes : Station → MessageValue → Check → Bool
passes s m RespIsLast = resp_of m == wire s.received
passes s m CauseIsOpen = may_nak m s.causes
passes s m SomeOutstanding = not (s.acknowledged == given s)
passes s m NumIsHighest = num_of m == wire (given s)
passes s m NumIsNext = num_of m == wire s.next_to_send
passes s m RoomIfNew = if is_new s then has_room s else true
passes s m AsFirstGiven = if is_new s then true else as_first_given s (body_of m)

-- ---- changes

-- where the number is new it is given, and N rises
abbrev pub with_packet : Bool → List (List ℕ) → List ℕ → List (List ℕ)
with_packet true packets body = packets ++ body ∷ []
with_packet false packets body = packets

abbrev pub sends : Station → MessageValue → Change → Station
sends s m Nothing = s
sends s m UseCause = record s { causes = after_nak m s.causes }
sends s m SendPacket = record s { packets = with_packet (is_new s) s.packets (body_of m); next_to_send = s.next_to_send + 1 }

-- ---- effects

abbrev pub acknowledged_by : Bool → Station → ℕ → Station
acknowledged_by true s resp = record s { acknowledged = resp; next_to_send = max s.next_to_send (resp + 1) }
acknowledged_by false s resp = s

abbrev pub responded : Station → ℕ → Station
responded s resp = acknowledged_by (nat_lt s.acknowledged resp && nat_le resp (given s)) s resp

-- the number after the last received
abbrev pub is_next : Station → Truth → Bool
is_next s u = u.number == s.received + 1

abbrev pub with_data : (next kept : Bool) → Station → List ℕ → Station
with_data true true s body = record s { received = s.received + 1; taken = s.taken ++ body ∷ [] }
with_data true false s body = record s { causes = with_cause NoBuffer s.causes }
with_data false kept s body = s

abbrev pub asked : Bool → Station → Station
asked true s = s
asked false s = record s { causes = with_cause RepResponse s.causes }

abbrev pub does : MessageValue → Truth → Bool → Station → Effect → Station
does m u kept s (GoTo state) = record s { state = state }
does m u kept s TakePartner = record s { partner = Some u.tag.period }
does m u kept s Respond = responded s u.response
does m u kept s SetBack = record s { next_to_send = s.acknowledged + 1 }
does m u kept s TakePacket = with_data (is_next s u) kept s (body_of m)
does m u kept s AnswerRep = asked (u.number == s.received) s

-- ---- the station

abbrev pub station_book : Book Station Truth
station_book = record {
  state = λ (s : Station). s.state;
  after_event = after_event;
  passes = passes;
  sends = sends;
  known = truth_after;
  tag = tag_of;
  tag_of = λ (u : Truth). u.tag;
  is_next = λ (s : Station) (m : MessageValue) (u : Truth). is_next s u;
  does = does;
  counts = λ reason (s : Station). record s { causes = with_cause reason s.causes };
}

abbrev pub sending_refusal : Station → MessageValue → Option StationRefusal
sending_refusal s m = sending_refusal_by station_book s m

abbrev pub after_sending : Station → MessageValue → Station
after_sending s m = after_sending_by station_book s m

-- of a message that this station sends
abbrev pub truth_of : Station → MessageValue → Truth
truth_of s m = truth_after s (after_sending s m) m

-- whether a message, where it is not refused, gives a new number
abbrev pub gives_by : Change → Station → Bool
gives_by SendPacket s = is_new s
gives_by change s = false

abbrev pub gives_number : Station → MessageValue → Bool
gives_number s m = gives_by (change_of m) s

abbrev pub meets_needs : PeriodRule → Station → MessageValue → Truth → Bool
meets_needs rule s m u = meets_by station_book rule s m u

abbrev pub takes : Station → MessageValue → Truth → Bool
takes s m u = takes_by station_book s m u

abbrev pub arrival_refusal : PeriodRule → Station → ArrivalValue Truth → Bool → Option StationRefusal
arrival_refusal rule s arrival kept = arrival_refusal_by station_book rule s arrival kept

abbrev pub after_arrival : Station → ArrivalValue Truth → Bool → Station
after_arrival s arrival kept = after_arrival_by station_book s arrival kept
