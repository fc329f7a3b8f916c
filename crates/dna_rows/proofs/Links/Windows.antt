-- Numbers beyond one window and beyond 4,095, on segments that are written out: the full window, how far back a repeat and a word in one
-- reach, and how far ahead a segment may come.
use Rattle.dna_rows.proofs.Prelude.{◌≡◌, ℕ, ◌-◌, Bool, true, false, Option, Some, None, List, [], ◌∷◌, replicate, length, Result, Ok, Err, Ack}
use Rattle.dna_rows.proofs.Prelude.{AckWord, SegmentValue, LinkRefusal, WrongSegment, WrongAck, LinkWindowFull, Piece, Sending, wire, TrueSegments}
use Rattle.dna_rows.proofs.Prelude.{LinkVariables, WireSegments}
use Rattle.dna_links.specs.TrueSegments as on_true
use Rattle.dna_links.specs.WireSegments as on_wire

-- a message of one byte, in one piece
abbrev byte : Piece
byte = record { begins = true; ends = true; body = 5 ∷ [] }

-- a segment that carries it, with these words
abbrev segment : (number : ℕ) → List AckWord → SegmentValue
segment number acks = record { begins = true; ends = true; dstaddr = 2; srcaddr = 1; acks = acks; number = number; bit_12 = false; body = 5 ∷ [] }

-- the same, and two bytes that do not end the message
abbrev long_segment : (number : ℕ) → SegmentValue
long_segment number = record (segment number []) { ends = false; body = 5 ∷ 5 ∷ [] }

abbrev word : ℕ → AckWord
word number = record { qualifier = Ack; number = number }

-- The numbers of a link's segments without a bound: so many given and acknowledged, the last acknowledgement sent, so many received
pub record Reached : Type 0 where
  pub given : ℕ
  pub acknowledged : ℕ
  pub last : ℕ
  pub received : ℕ

-- messages of one byte: two more are handed in, and all that came are delivered
abbrev of_true : Reached → TrueSegments
of_true r = record {
  handed = [];
  unsent = record { begun = false; messages = (5 ∷ []) ∷ (5 ∷ []) ∷ [] };
  given = replicate r.given byte;
  acknowledged = r.acknowledged;
  last = r.last;
  received = replicate r.received (Some byte);
  delivered = [];
  passed = r.received;
}

-- the same as a node keeps it; `gave_many` and `last_is_high` are whether the highest given and the last have reached 2,047
abbrev of_wire : (gave_many last_is_high : Bool) → Reached → WireSegments
of_wire gave_many last_is_high r = record {
  variables = record {
    unsent = record { begun = false; messages = (5 ∷ []) ∷ (5 ∷ []) ∷ [] };
    acknowledged = wire r.acknowledged;
    outstanding = replicate (r.given - r.acknowledged) byte;
    received = wire r.received;
    pieces = [];
  };
  gave_many = gave_many;
  last = wire r.last;
  last_is_high = last_is_high;
}

abbrev refusal : {D K : Type 0} → Result (Sending D K) LinkRefusal → Option LinkRefusal
refusal (Ok sent) = None
refusal (Err reason) = Some reason

-- A segment that is sent is refused so, or goes, on both
abbrev Sends : (gave_many last_is_high : Bool) → Reached → SegmentValue → Option LinkRefusal → Type 0
Sends gave_many last_is_high r s reason =
    (refusal (on_true.sends_segment 1 s (of_true r)) ≡ reason) × (refusal (on_wire.sends_segment 1 s (of_wire gave_many last_is_high r)) ≡ reason)

abbrev before_the_wrap : Reached
before_the_wrap = record { given = 4095; acknowledged = 2049; last = 0; received = 0 }

abbrev window_filled : Reached
window_filled = record { given = 4096; acknowledged = 2049; last = 0; received = 0 }

abbrev all_acknowledged : ℕ → Reached
all_acknowledged given = record { given = given; acknowledged = given; last = 0; received = 0 }

abbrev answered : (last : ℕ) → Reached
answered last = record { given = 1; acknowledged = 0; last = last; received = 5000 }

-- whether the highest given and the last acknowledgement have reached 2,047, once this is sent
abbrev remembered : Result (Sending WireSegments (Unit {0})) LinkRefusal → Option (Bool × Bool)
remembered (Ok sent) = Some (sent.segments.gave_many, sent.segments.last_is_high)
remembered (Err reason) = None

abbrev near_the_wrap : LinkVariables
near_the_wrap = (of_wire true true (record { given = 4100; acknowledged = 4090; last = 0; received = 4090 })).variables

abbrev begun : Piece
begun = record { begins = true; ends = false; body = 6 ∷ [] }

abbrev ending : Piece
ending = record { begins = false; ends = true; body = 7 ∷ [] }

abbrev with_pieces : List (Option Piece) → WireSegments
with_pieces pieces = record (of_wire true true window_filled) { variables = record near_the_wrap { pieces = pieces } }

record Rows : Type 0 where
  -- ---- the full window: 4,095 are given, 2,049 acknowledged, and number 4,096 is given too
  number_4096 : Sends true false before_the_wrap (segment 0 []) None
  link_window_full : Sends true false window_filled (segment 1 []) (Some LinkWindowFull)
  one_more_acknowledged : Sends true false (record window_filled { acknowledged = 2050 }) (segment 1 []) None
  -- 23, and 22 and 20 fit too; but words come first
  window_before_length : Sends true false window_filled (long_segment 1) (Some LinkWindowFull)
  words_before_window : Sends true false window_filled (segment 1 (word 1 ∷ [])) (Some WrongAck)
  -- number 4,096 and those before it go again
  sent_again_across_the_wrap : Sends true false window_filled (segment 0 []) None × Sends true false window_filled (segment 4095 []) None
  -- ---- how far back a repeat reaches: one of the last 2,047
  lowest_repeat : Sends true false (all_acknowledged 3000) (segment 954 []) None
  below_the_lowest_repeat : Sends true false (all_acknowledged 3000) (segment 953 []) (Some WrongSegment)
  -- of the first 2,047, number 1 is the lowest; before there are so many, number 0 is none
  first_of_2047 : Sends true false (all_acknowledged 2047) (segment 1 []) None
  none_of_2047 : Sends true false (all_acknowledged 2047) (segment 0 []) (Some WrongSegment)
  none_of_2046 : Sends false false (all_acknowledged 2046) (segment 0 []) (Some WrongSegment)
  none_of_2046_below_zero : Sends false false (all_acknowledged 2046) (segment 4095 []) (Some WrongSegment)
  -- of those before the wrap, once there were more than 2,047
  repeat_from_before_the_wrap : Sends true false (all_acknowledged 4100) (segment 4090 []) None
  -- ---- how far back a word in a repeat reaches: 2,047 below the last, and not below 0
  lowest_word : Sends false true (answered 5000) (segment 1 (word 2953 ∷ [])) None
  below_the_lowest_word : Sends false true (answered 5000) (segment 1 (word 2952 ∷ [])) (Some WrongAck)
  -- at 2,047 number 0 may be named; below it, no number below 0
  word_zero_of_2047 : Sends false true (record (answered 2047) { received = 2047 }) (segment 1 (word 0 ∷ [])) None
  word_below_zero_of_2046 : Sends false false (record (answered 2046) { received = 2046 }) (segment 1 (word 4095 ∷ [])) (Some WrongAck)
  -- numbers across the wrap: from 4,090 through 5,000
  word_across_the_wrap : Sends false true (record (answered 4090) { received = 4100 }) (segment 1 (word 4 ∷ word 3 ∷ [])) None
  word_beyond_the_wrap : Sends false true (record (answered 4090) { received = 4100 }) (segment 1 (word 5 ∷ [])) (Some WrongAck)
  -- ---- what a node remembers of them
  gave_2046 : remembered (on_wire.sends_segment 1 (segment 2046 []) (of_wire false false (all_acknowledged 2045))) ≡ Some (false, false)
  gave_2047 : remembered (on_wire.sends_segment 1 (segment 2047 []) (of_wire false false (all_acknowledged 2046))) ≡ Some (true, false)
  gave_4096 : remembered (on_wire.sends_segment 1 (segment 0 []) (of_wire true false (all_acknowledged 4095))) ≡ Some (true, false)
  acknowledged_2046 : remembered (on_wire.sends_acks (word 2046 ∷ []) (of_wire false false (record (answered 2000) { received = 2050 }))) ≡ Some
      (false, false)
  acknowledged_2047 : remembered (on_wire.sends_acks (word 2047 ∷ []) (of_wire false false (record (answered 2000) { received = 2050 }))) ≡ Some
      (false, true)
  acknowledged_4096 : remembered (on_wire.sends_acks (word 0 ∷ []) (of_wire false true (record (answered 4000) { received = 4100 }))) ≡ Some
      (false, true)
  -- ---- what comes, by its bytes: a node that has acknowledged numbers through 4,090 of 4,100, and has received 4,090
  -- through 4,099, through 4,100, and one more, which was not given
  acknowledged_across_the_wrap : on_wire.acknowledged_by near_the_wrap (word 3) ≡ record near_the_wrap { acknowledged = 3; outstanding = byte ∷ [] }
  acknowledged_to_the_end : on_wire.acknowledged_by near_the_wrap (word 4) ≡ record near_the_wrap { acknowledged = 4; outstanding = [] }
  acknowledged_beyond : on_wire.acknowledged_by near_the_wrap (word 5) ≡ near_the_wrap
  acknowledged_before : on_wire.acknowledged_by near_the_wrap (word 4089) ≡ near_the_wrap
  -- 4,091 is the next; 4,100 is held; 2,047 ahead is held, and 2,048 ahead counts as received
  next_number : on_wire.segment_taken (segment 4091 []) near_the_wrap ≡ record near_the_wrap { received = 4091; pieces = Some byte ∷ [] }
  held_across_the_wrap : on_wire.segment_taken (segment 0 []) near_the_wrap ≡ record near_the_wrap
      { pieces = None ∷ None ∷ None ∷ None ∷ None ∷ Some byte ∷ [] }
  -- once it is held, those before it come: the highest received rises over it
  received_over_the_wrap : on_wire.segment_taken (segment 4095 [])
      (record near_the_wrap { received = 4094; pieces = Some byte ∷ None ∷ Some byte ∷ [] }) ≡ record near_the_wrap
      { received = 0; pieces = Some byte ∷ Some byte ∷ Some byte ∷ [] }
  held_2047_ahead : length (on_wire.segment_taken (segment 2041 []) near_the_wrap).pieces ≡ 2047
  passed_2048_ahead : on_wire.segment_taken (segment 2042 []) near_the_wrap ≡ near_the_wrap
  passed_as_received : on_wire.segment_taken (segment 4090 []) near_the_wrap ≡ near_the_wrap
  passed_as_received_before : on_wire.segment_taken (segment 4089 []) near_the_wrap ≡ near_the_wrap
  -- ---- what is left of a link's segments when it ends: the whole messages that came, and nothing of the one that did not
  whole_messages_stay : on_wire.ends (with_pieces (Some byte ∷ Some begun ∷ Some ending ∷ Some begun ∷ Some begun ∷ [])) ≡
      on_wire.with_pieces_alone (Some byte ∷ Some begun ∷ Some ending ∷ [])
  nothing_behind_a_gap_stays : on_wire.ends (with_pieces (Some begun ∷ None ∷ Some ending ∷ Some byte ∷ [])) ≡ on_wire.empty
  nothing_stays_once_the_address_is_given_again : on_wire.forgets (with_pieces (Some byte ∷ [])) ≡ on_wire.empty

computed : Rows
computed = search
