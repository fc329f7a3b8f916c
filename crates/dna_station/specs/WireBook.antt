-- What the words of the tables mean to a station as a node keeps it: on numbers modulo 256, and on the bytes of a message. What an effect
-- does to the station variables, which any node keeps, is kept apart from what it does to what a judge keeps besides.
use Rattle.std.specs.Prelude.{ℕ, ◌+◌, ◌-◌, Bool, true, false, ◌&&◌, not, ◌==◌, nat_lt, nat_le, if◌then◌else◌, Option, Some, None, List, drop, length}
use Rattle.std.specs.Prelude.{slice_get, option_and_then}
use Rattle.std.specs.Str.{bytes_eq}
use Rattle.wire_base.specs.Seq.{wire_distance}
use Rattle.ddcmp_msg.specs.Message.{MessageValue}
use Rattle.ddcmp_msg.specs.declared.nak_reason.NakReason.{NakReason}
use Rattle.ddcmp_msg.specs.declared.nak_reason.NakReason.TheVariants.{RepResponse, NoBuffer}
use Rattle.dna_station.specs.declared.refusal.StationRefusal.{StationRefusal}
use Rattle.dna_station.specs.declared.tag.Tag.{Tag}
use Rattle.dna_station.specs.NakCauses.{Causes, with_cause, may_nak, after_nak}
use Rattle.dna_station.specs.Table.{WINDOW, Check, RespIsLast, CauseIsOpen, SomeOutstanding, NumIsHighest, NumIsNext, RoomIfNew, AsFirstGiven}
use Rattle.dna_station.specs.Table.{Change, Nothing, UseCause, SendPacket, change_of, Effect, GoTo, TakePartner, Respond, SetBack, TakePacket}
use Rattle.dna_station.specs.Table.{AnswerRep}
use Rattle.dna_station.specs.PeriodRule.{PeriodRule}
use Rattle.dna_station.specs.Station.{wire}
use Rattle.dna_station.specs.Book.{Book, ArrivalValue, Sound, HeaderBad, DataBad, resp_of, num_of, body_of, sending_refusal_by, after_sending_by}
use Rattle.dna_station.specs.Book.{arrival_refusal_by, after_arrival_by, takes_by}
use Rattle.dna_station.specs.WireStation.{HeldPacket, StationVariables, WireStation, wire_after_event, with_new}

-- what an effect of a message with this tag makes of the partner
abbrev pub partner_after : Tag → Option ℕ → Effect → Option ℕ
partner_after tag partner TakePartner = Some tag.period
partner_after tag partner effect = partner

module _ {L : Type 0} where
  -- ---- checks

  -- T is new: no packet that is held has this number
  abbrev pub wire_is_new : StationVariables L → Bool
  wire_is_new k = k.ahead == length k.held

  abbrev pub is_held_packet : Option (HeldPacket L) → List ℕ → Bool
  is_held_packet None body = false
  is_held_packet (Some packet) body = bytes_eq body packet.body

  abbrev pub wire_passes : WireStation L → MessageValue → Check → Bool
  wire_passes w m RespIsLast = resp_of m == w.variables.received
  wire_passes w m CauseIsOpen = may_nak m w.causes
  wire_passes w m SomeOutstanding = not (length w.variables.held == 0)
  wire_passes w m NumIsHighest = num_of m == wire (w.variables.acknowledged + length w.variables.held)
  wire_passes w m NumIsNext = num_of m == wire (w.variables.acknowledged + 1 + w.variables.ahead)
  wire_passes w m RoomIfNew = if wire_is_new w.variables then nat_lt (length w.variables.held) WINDOW else true
  wire_passes w m AsFirstGiven = if wire_is_new w.variables then true else is_held_packet (slice_get w.variables.held w.variables.ahead) (body_of m)

  -- ---- changes

  abbrev pub sends_packet : StationVariables L → List ℕ → StationVariables L
  sends_packet k body = record k { ahead = k.ahead + 1; held = with_new (wire_is_new k) k.held body }

  abbrev pub wire_sends : WireStation L → MessageValue → Change → WireStation L
  wire_sends w m Nothing = w
  wire_sends w m UseCause = record w { causes = after_nak m w.causes }
  wire_sends w m SendPacket = record w { variables = sends_packet w.variables (body_of m) }

  -- ---- effects

  -- how many held packets RESP acknowledges, where it lies above the acknowledged number and at most at the highest given
  abbrev pub acknowledges : StationVariables L → ℕ → ℕ
  acknowledges k resp = wire_distance 256 k.acknowledged resp

  abbrev pub wire_acknowledged_by : Bool → StationVariables L → ℕ → StationVariables L
  wire_acknowledged_by true k resp = record k { acknowledged = resp; ahead = k.ahead - acknowledges k resp; held = drop (acknowledges k resp) k.held }
  wire_acknowledged_by false k resp = k

  abbrev pub wire_responded : StationVariables L → ℕ → StationVariables L
  wire_responded k resp = wire_acknowledged_by (nat_lt 0 (acknowledges k resp) && nat_le (acknowledges k resp) (length k.held)) k resp

  abbrev pub wire_is_next : StationVariables L → ℕ → Bool
  wire_is_next k num = num == wire (k.received + 1)

  abbrev pub with_next : Bool → StationVariables L → StationVariables L
  with_next true k = record k { received = wire (k.received + 1) }
  with_next false k = k

  -- of the station variables
  abbrev pub variables_after : MessageValue → Bool → StationVariables L → Effect → StationVariables L
  variables_after m kept k (GoTo state) = record k { state = state }
  variables_after m kept k TakePartner = k
  variables_after m kept k Respond = wire_responded k (resp_of m)
  variables_after m kept k SetBack = record k { ahead = 0 }
  variables_after m kept k TakePacket = with_next (wire_is_next k (num_of m) && kept) k
  variables_after m kept k AnswerRep = k

  -- of the open causes
  abbrev pub causes_after : MessageValue → Bool → StationVariables L → Causes → Effect → Causes
  causes_after m kept k causes TakePacket = if (wire_is_next k (num_of m) && not kept) then with_cause NoBuffer causes else causes
  causes_after m kept k causes AnswerRep = if num_of m == k.received then causes else with_cause RepResponse causes
  causes_after m kept k causes effect = causes

  abbrev pub wire_does : MessageValue → Tag → Bool → WireStation L → Effect → WireStation L
  wire_does m tag kept w effect = record w {
    variables = variables_after m kept w.variables effect;
    partner = partner_after tag w.partner effect;
    causes = causes_after m kept w.variables w.causes effect;
  }

  -- ---- the station

  abbrev pub wire_tag : WireStation L → Tag
  wire_tag w = record { period = w.period; partner = w.partner }

  abbrev pub wire_book : Book (WireStation L) Tag
  wire_book = record {
    state = λ (w : WireStation L). w.variables.state;
    after_event = wire_after_event;
    passes = wire_passes;
    sends = wire_sends;
    known = λ (before after : WireStation L) (m : MessageValue). wire_tag before;
    tag = wire_tag;
    tag_of = λ (tag : Tag). tag;
    is_next = λ (w : WireStation L) (m : MessageValue) (tag : Tag). wire_is_next w.variables (num_of m);
    does = wire_does;
    counts = λ (reason : NakReason) (w : WireStation L). record w { causes = with_cause reason w.causes };
  }

  abbrev pub wire_sending_refusal : WireStation L → MessageValue → Option StationRefusal
  wire_sending_refusal w m = sending_refusal_by wire_book w m

  abbrev pub wire_after_sending : WireStation L → MessageValue → WireStation L
  wire_after_sending w m = after_sending_by wire_book w m

  abbrev pub wire_arrival_refusal : PeriodRule → WireStation L → ArrivalValue Tag → Bool → Option StationRefusal
  wire_arrival_refusal rule w arrival kept = arrival_refusal_by wire_book rule w arrival kept

  abbrev pub wire_after_arrival : WireStation L → ArrivalValue Tag → Bool → WireStation L
  wire_after_arrival w arrival kept = after_arrival_by wire_book w arrival kept

  -- ---- what is answered

  -- whether the message, where it is not refused, gives a new number
  abbrev pub gives_by : Change → StationVariables L → Bool
  gives_by SendPacket k = wire_is_new k
  gives_by change k = false

  abbrev pub gives_new : WireStation L → MessageValue → Bool
  gives_new w m = gives_by (change_of m) w.variables

  -- the label of the packet that is sent again
  abbrev pub label_by : Change → StationVariables L → Option L
  label_by SendPacket k = option_and_then (λ (packet : HeldPacket L). packet.label) (slice_get k.held k.ahead)
  label_by change k = None

  abbrev pub label_again : WireStation L → MessageValue → Option L
  label_again w m = label_by (change_of m) w.variables

  -- the packet that is taken, where the arrival is not refused
  abbrev pub wire_taken : WireStation L → ArrivalValue Tag → Bool → Option (List ℕ)
  wire_taken w (Sound m tag) kept = if (takes_by wire_book w m tag && kept) then Some (body_of m) else None
  wire_taken w HeaderBad kept = None
  wire_taken w DataBad kept = None
