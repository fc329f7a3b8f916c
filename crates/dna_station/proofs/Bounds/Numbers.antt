-- The numbers of DDCMP as numbered messages: a side goes by its period, at most 255 are outstanding, and each RESP is the last number
-- received.
use Rattle.std.proofs.Common.{◌≡◌, ℕ, ◌+◌, ◌-◌, ◌≤◌, Bool, true, false, cond, Option, Some, None, List, [], ◌∷◌, length, refl, arith, eqb-true}
use Rattle.std.proofs.Common.{length-append}
use Rattle.ddcmp_msg.specs.declared.flags.Flags.{Flags}
use Rattle.ddcmp_msg.specs.Message.{MessageValue, Data, Ack, Nak, Rep}
use Rattle.dna_station.specs.Station.{Station, given, wire}
use Rattle.dna_station.specs.Table.{WINDOW}
use Rattle.dna_station.specs.Truth.{Truth}
use Rattle.dna_station.specs.StationBook.{is_new, sending_refusal, after_sending, truth_of, with_packet}
use Rattle.dna_station.specs.Bounds.{IsOrdered, HasWireNumbers}
use Rattle.dna_station.specs.Line.{SentUnit}
use Rattle.dna_station.proofs.Bounds.Ordered.{sending_ordered}
use Rattle.dna_station.proofs.Steps.Checks.{sending_passed}
use Rattle.two_nodes.proofs.Numbered.{Limits, Numbers, Numbered}
use Rattle.two_nodes.proofs.NumberedSteps.{IsSending}

abbrev pub limits : Limits
limits = record { within = WINDOW; reach = WINDOW - 1; back = 0 }

-- the numbers of a station now
abbrev pub numbers_of : Station → Numbers
numbers_of s = record {
  name = s.period;
  partner = s.partner;
  given = given s;
  received = s.received;
  acknowledged = s.acknowledged;
  last =
      s.received;
}

-- the messages that have a RESP, those that have a packet, and the one that asks for the highest number
abbrev pub has_response : MessageValue → Bool
has_response (Data flags resp num body) = true
has_response (Ack flags resp) = true
has_response (Nak flags reason resp) = true
has_response m = false

abbrev pub is_data : MessageValue → Bool
is_data (Data flags resp num body) = true
is_data m = false

abbrev pub is_rep : MessageValue → Bool
is_rep (Rep flags num) = true
is_rep m = false

-- the number of a data message
abbrev pub data_number : MessageValue → Truth → Option ℕ
data_number m u = cond (is_data m) (Some u.number) None

-- the RESP of a message
abbrev pub responses : MessageValue → Truth → List ℕ
responses m u = cond (has_response m) (u.response ∷ []) []

abbrev pub view : SentUnit → Numbered
view unit = record {
  sender = record {
    name = unit.known.tag.period;
    partner = unit.known.tag.partner;
    given = unit.known.given;
    received =
        unit.known.received;
    acknowledged = unit.known.acknowledged;
    last = unit.known.received;
  };
  last_before = unit.known.received;
  number = data_number unit.message unit.known;
  acks = responses unit.message unit.known;
}

-- a REP's number is the highest given
abbrev pub AsksForHighest : MessageValue → Truth → Type 0
AsksForHighest m u = is_rep m ≡ true → u.number ≡ u.given

-- the unit of a message that a station sends
abbrev pub unit_of : Station → List ℕ → MessageValue → SentUnit
unit_of s bytes m = record { bytes = bytes; message = m; known = truth_of s m }

module _ (s : Station) (o : IsOrdered s) (bytes : List ℕ) where
  -- the bytes of what is sent are the wire values of its numbers
  pub sent_spelled : (m : MessageValue) → sending_refusal s m ≡ None → HasWireNumbers m (truth_of s m)
  sent_spelled (Data flags resp num body) e =
      let p = sending_passed s (Data flags resp num body) refl e in
      record { response = eqb-true resp (wire s.received) p.1.0; number = eqb-true num (wire s.next_to_send) p.0 }
  sent_spelled (Ack flags resp) e = record { response = eqb-true resp (wire s.received) (sending_passed s (Ack flags resp) refl e).0; number = refl }
  sent_spelled (Nak flags reason resp) e =
      record { response = eqb-true resp (wire s.received) (sending_passed s (Nak flags reason resp) refl e).0; number = refl }
  sent_spelled (Rep flags num) e = record { response = refl; number = eqb-true num (wire (given s)) (sending_passed s (Rep flags num) refl e).1.0 }
  sent_spelled m e = record { response = refl; number = refl }

  pub sent_asks : (m : MessageValue) → AsksForHighest m (truth_of s m)
  sent_asks (Rep flags num) is = refl
  sent_asks m is = absurd cc

  few : given s ≤ s.acknowledged + WINDOW
  few = o.few

  -- a RESP and no packet
  of_response : (flags : Flags) (resp : ℕ) → IsSending view limits (numbers_of s) (given s) s.received (view (unit_of s bytes (Ack flags resp)))
  of_response flags resp = record {
    sender = refl;
    last_before = refl;
    lawful = record { few = few; number = tt; acks = (omega arith, omega arith, tt) };
    more_given = omega arith;
    more_last = omega arith;
  }

  -- what is sent was lawful, and follows the numbers of its sender
  pub sending_is : (m : MessageValue) → sending_refusal s m ≡ None → IsSending view limits (numbers_of s) (given (after_sending s m)) s.received
      (view (unit_of s bytes m))
  sending_is (Data flags resp num body) e =
      let p = sending_ordered s o (Data flags resp num body) e in
      let above = o.above in let below = p.below in let room = p.few in
      record {
        sender = refl;
        last_before = refl;
        lawful = record { few = room; number = (omega arith, omega arith); acks = (omega arith, omega arith, tt) };
        more_given = more (is_new s);
        more_last = omega arith;
      }
    where
      more : (b : Bool) → given s ≤ length (with_packet b s.packets body)
      more true = let n = length-append s.packets (body ∷ []) in omega arith
      more false = omega arith
  sending_is (Ack flags resp) e = of_response flags resp
  sending_is (Nak flags reason resp) e = of_response flags resp
  sending_is m e = record {
    sender = refl;
    last_before = refl;
    lawful = record { few = few; number = tt; acks = tt };
    more_given =
        omega arith;
    more_last = omega arith;
  }
