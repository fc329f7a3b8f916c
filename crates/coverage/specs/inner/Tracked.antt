-- What is kept of a station to tell the rows of its records: a third book over the tables, which keeps of the packets how many there are.
use Rattle.std.specs.Prelude.{ℕ, ◌+◌, ◌-◌, Bool, true, false, ◌&&◌, ◌==◌, nat_lt, nat_le, min, length, fold}
use Rattle.wire_base.specs.Seq.{wire_distance}
use Rattle.ddcmp_msg.specs.Message.{MessageValue}
use Rattle.dna_station.specs.declared.state.StationEvent.{StationEvent}
use Rattle.dna_station.specs.declared.state.StationEvent.TheVariants as user
use Rattle.dna_station.specs.declared.state.State.{State}
use Rattle.dna_station.specs.Table.{Change, Nothing, UseCause, SendPacket, change_of, Effect, GoTo, TakePartner, Respond, SetBack, TakePacket}
use Rattle.dna_station.specs.Table.{AnswerRep, row, state_after}
use Rattle.dna_station.specs.Book.{resp_of, num_of}
use Rattle.dna_station.specs.Station.{wire}
use Rattle.dna_station.specs.WireStation.{StationVariables}
use Rattle.coverage.specs.declared.tracker.Tracker.{Tracker}

-- of a station with these variables
abbrev pub tracker_of : {L : Type 0} → StationVariables L → Tracker
tracker_of k =
    record { state = k.state; received = k.received; acknowledged = k.acknowledged; ahead = k.ahead; outstanding = length k.held }

-- in this state, with no number received, given or acknowledged
abbrev pub fresh : State → Tracker
fresh state = record { state = state; received = 0; acknowledged = 0; ahead = 0; outstanding = 0 }

-- the next to send is new
abbrev pub is_new : Tracker → Bool
is_new t = t.ahead == t.outstanding

-- ---- what the user does

abbrev pub after_event : Tracker → StationEvent → Tracker
after_event t user.Start = fresh (state_after user.Start)
after_event t user.Halt = record t { state = state_after user.Halt }

-- ---- what is sent

-- numbers of packets stop at 255; no more are outstanding
abbrev pub next_count : ℕ → ℕ
next_count count = min (count + 1) 255

abbrev pub with_packet : Bool → Tracker → Tracker
with_packet true t = record t { ahead = next_count t.ahead; outstanding = next_count t.outstanding }
with_packet false t = record t { ahead = next_count t.ahead }

abbrev pub changed : Tracker → Change → Tracker
changed t Nothing = t
changed t UseCause = t
changed t SendPacket = with_packet (is_new t) t

abbrev pub after_sending : Tracker → MessageValue → Tracker
after_sending t m = changed t (change_of m)

-- ---- what comes

abbrev pub acknowledges : Tracker → ℕ → ℕ
acknowledges t resp = wire_distance 256 t.acknowledged resp

abbrev pub acknowledged_by : Bool → Tracker → ℕ → Tracker
acknowledged_by true t resp =
    record t { acknowledged = resp; ahead = t.ahead - acknowledges t resp; outstanding = t.outstanding - acknowledges t resp }
acknowledged_by false t resp = t

abbrev pub responded : Tracker → ℕ → Tracker
responded t resp = acknowledged_by (nat_lt 0 (acknowledges t resp) && nat_le (acknowledges t resp) t.outstanding) t resp

abbrev pub is_next : Tracker → ℕ → Bool
is_next t num = num == wire (t.received + 1)

abbrev pub with_next : Bool → Tracker → Tracker
with_next true t = record t { received = wire (t.received + 1) }
with_next false t = t

abbrev pub does : MessageValue → Bool → Tracker → Effect → Tracker
does m kept t (GoTo state) = record t { state = state }
does m kept t TakePartner = t
does m kept t Respond = responded t (resp_of m)
does m kept t SetBack = record t { ahead = 0 }
does m kept t TakePacket = with_next (is_next t (num_of m) && kept) t
does m kept t AnswerRep = t

abbrev pub after_arrival : Tracker → MessageValue → Bool → Tracker
after_arrival t m kept = fold (does m kept) t (row t.state m).effects

-- data in RUNNING: its RESP, and then its packet
abbrev pub received_data : Tracker → (resp num : ℕ) → Bool → Tracker
received_data t resp num kept = with_next (is_next (responded t resp) num && kept) (responded t resp)
