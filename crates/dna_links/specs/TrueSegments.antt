-- The segments of one link on numbers without a bound (NSP 4.0, data segments and acknowledgements): whole lists, from number 1 on. The
-- order of the checks is the order of refusals; `else` gives the number of the reason.
use Rattle.std.specs.Prelude.{ℕ, ◌+◌, ◌-◌, Bool, true, false, ◌&&◌, ◌||◌, not, ◌==◌, nat_lt, nat_le, max, if◌then◌else◌, Option, Some, None, List, []}
use Rattle.std.specs.Prelude.{◌∷◌, ◌++◌, length, drop, fold, slice_get, Result, Ok, Err}
use Rattle.std.specs.Str.{bytes_eq}
use Rattle.dna_packet.specs.declared.ack_word.AckWord.{AckWord}
use Rattle.dna_packet.specs.Nsp.{SegmentValue}
use Rattle.dna_station.specs.declared.link_refusal.LinkRefusal.{LinkRefusal}
use Rattle.dna_station.specs.declared.link_refusal.LinkRefusal.TheVariants.{WrongSegment, WrongAck, SegmentTooLong, LinkWindowFull}
use Rattle.dna_links.specs.Segmentation.{Piece, piece_of, same_piece, Unsent, none_unsent, with_message, is_next_piece, without_piece, in_order, hold}
use Rattle.dna_links.specs.Segmentation.{Whole, next_message}
use Rattle.dna_links.specs.SegmentBook.{SegmentBook, Sending, Late, with_gap, wider, REACH, wire, distance, is_of_data}
use Rattle.dna_links.specs.Links.{check}

pub record TrueSegments : Type 0 where
  -- all messages handed in, and what of them is in no segment yet
  pub handed : List (List ℕ)
  pub unsent : Unsent
  -- all segments given, the first of which has number 1
  pub given : List Piece
  -- the highest number acknowledged by the partner
  pub acknowledged : ℕ
  -- the last acknowledgement sent, 0 before any
  pub last : ℕ
  -- all segments received, number 1 first; None for each that is missing
  pub received : List (Option Piece)
  -- all messages delivered, and how many segments they came in
  pub delivered : List (List ℕ)
  pub passed : ℕ

-- What is true of a message's numbers when it is sent
pub record Numbers : Type 0 where
  -- what SEGNUM stands for; 0 where the message has none
  pub segment : ℕ
  -- what its acknowledgement words stand for, except for those of the other subchannel
  pub acknowledgements : List ℕ
  -- the sender's own numbers after the sending, and its last acknowledgement before. No link goes by them
  pub given : ℕ
  pub received : ℕ
  pub acknowledged : ℕ
  pub last : ℕ
  pub last_before : ℕ

abbrev pub empty : TrueSegments
empty = record { handed = []; unsent = none_unsent; given = []; acknowledged = 0; last = 0; received = []; delivered = []; passed = 0 }

-- the highest number given, and the highest received without a gap
abbrev pub highest_given : TrueSegments → ℕ
highest_given f = length f.given

abbrev pub highest_received : TrueSegments → ℕ
highest_received f = in_order f.received

-- ---- the user's messages

abbrev pub hands_in : List ℕ → TrueSegments → TrueSegments
hands_in message f = record f { handed = f.handed ++ message ∷ []; unsent = with_message message f.unsent }

-- the next message, if all its segments were received: it is what the user says was delivered
abbrev pub delivered_as : Bool → Whole → TrueSegments → Option TrueSegments
delivered_as true w f = Some (record f { delivered = f.delivered ++ w.message ∷ []; passed = f.passed + w.pieces })
delivered_as false w f = None

abbrev pub delivers_whole : Option Whole → List ℕ → TrueSegments → Option TrueSegments
delivers_whole None message f = None
delivers_whole (Some w) message f = delivered_as (bytes_eq message w.message) w f

abbrev pub delivers : List ℕ → TrueSegments → Option TrueSegments
delivers message f = delivers_whole (next_message (drop f.passed f.received)) message f

-- ---- acknowledgement words that are sent

-- A word names a number from the last one sent through the highest received: the least that has its bits. In a segment that is sent
-- again it may also name an earlier one, not below 0 and at most 2,047 below the last
abbrev pub named : (again : Bool) (last highest number : ℕ) → Option ℕ
named again last highest number =
    if nat_le (last + distance (wire last) number) highest then Some (last + distance (wire last) number) else
    if again && (nat_le (distance number (wire last)) REACH && nat_le (distance number (wire last)) last) then Some
    (last - distance number (wire last)) else
    None

-- the numbers that words name, and the last acknowledgement sent then
pub record Named : Type 0 where
  pub numbers : List ℕ
  pub last : ℕ

abbrev pub with_number : ℕ → Option Named → Option Named
with_number number None = None
with_number number (Some names) = Some (record names { numbers = number ∷ names.numbers })

abbrev pub with_first : Option ℕ → (ℕ → Option Named) → Option Named
with_first None later = None
with_first (Some number) later = with_number number (later number)

-- The words in their order; an earlier number leaves the last one as it is
abbrev pub all_named : (again : Bool) (highest : ℕ) → List AckWord → (last : ℕ) → Option Named
all_named again highest [] last = Some (record { numbers = []; last = last })
all_named again highest (word ∷ words) last =
    if is_of_data word.qualifier
    then with_first (named again last highest word.number) (λ number. all_named again highest words (max last number))
    else all_named again highest words last

-- ---- what is sent

abbrev pub numbers_of : (segment : ℕ) → Named → TrueSegments → TrueSegments → Numbers
numbers_of segment names before after = record {
  segment = segment;
  acknowledgements = names.numbers;
  given = highest_given after;
  received = highest_received after;
  acknowledged = after.acknowledged;
  last = after.last;
  last_before = before.last;
}

abbrev pub sending : (segment : ℕ) → Named → TrueSegments → TrueSegments → Sending TrueSegments Numbers
sending segment names before after = record { segments = after; known = numbers_of segment names before after }

-- a message without numbers
abbrev pub sends_other : TrueSegments → Numbers
sends_other f = numbers_of 0 (record { numbers = []; last = f.last }) f f

-- words alone: each names a number that it may, else 21
abbrev pub acks_named : Option Named → TrueSegments → Result (Sending TrueSegments Numbers) LinkRefusal
acks_named None f = Err WrongAck
acks_named (Some names) f = Ok (sending 0 names f (record f { last = names.last }))

abbrev pub sends_acks : List AckWord → TrueSegments → Result (Sending TrueSegments Numbers) LinkRefusal
sends_acks words f = acks_named (all_named false (highest_received f) words f.last) f

-- SEGNUM one above the highest given is new: with 2,047 outstanding 23; longer than the partner takes 22; it is the next piece of what was
-- handed in, else 20
abbrev pub sends_new : (segsize : ℕ) → Piece → Named → TrueSegments → Result (Sending TrueSegments Numbers) LinkRefusal
sends_new segsize p names f =
    check (nat_lt (highest_given f - f.acknowledged) REACH) LinkWindowFull
    (check (nat_le (length p.body) segsize) SegmentTooLong
    (check (is_next_piece p f.unsent) WrongSegment
    (Ok (sending (highest_given f + 1) names f (record f { last = names.last; given = f.given ++ p ∷ []; unsent = without_piece p f.unsent })))))

abbrev pub is_given : Option Piece → Piece → Bool
is_given None p = false
is_given (Some first) p = same_piece p first

-- one that is not acknowledged has its flag byte and its data; one that is acknowledged is not judged further
abbrev pub is_repeat : (number : ℕ) → Piece → TrueSegments → Bool
is_repeat number p f = nat_le number f.acknowledged || is_given (slice_get f.given (number - 1)) p

-- any other SEGNUM is that of one of the last 2,047 given, else 20: of the one so far below the highest
abbrev pub sends_again : (below : ℕ) → Piece → Named → TrueSegments → Result (Sending TrueSegments Numbers) LinkRefusal
sends_again below p names f =
    check (nat_lt below REACH && nat_lt below (highest_given f)) WrongSegment
    (check (is_repeat (highest_given f - below) p f) WrongSegment
    (Ok (sending (highest_given f - below) names f (record f { last = names.last }))))

abbrev pub is_new : SegmentValue → TrueSegments → Bool
is_new s f = s.number == wire (highest_given f + 1)

abbrev pub segment_named : Option Named → (segsize : ℕ) → SegmentValue → TrueSegments → Result (Sending TrueSegments Numbers) LinkRefusal
segment_named None segsize s f = Err WrongAck
segment_named (Some names) segsize s f =
    if is_new s f then sends_new segsize (piece_of s) names f else sends_again (distance s.number (wire (highest_given f))) (piece_of s) names f

-- its words first, else 21: an earlier number is allowed only where the segment is not new
abbrev pub sends_segment : (segsize : ℕ) → SegmentValue → TrueSegments → Result (Sending TrueSegments Numbers) LinkRefusal
sends_segment segsize s f = segment_named (all_named (not (is_new s f)) (highest_received f) s.acks f.last) segsize s f

-- ---- what is sent, with queues

-- in a new segment a word may also name an earlier number, at most `gap` below the last one sent
abbrev pub named_late : (gap last highest number : ℕ) → Option ℕ
named_late gap last highest number = named (nat_le (distance number (wire last)) gap) last highest number

-- the numbers that words name, and how far the last of them lies below the last one sent
pub record NamedLate : Type 0 where
  pub names : Named
  pub gap : ℕ

abbrev pub with_number_late : ℕ → Option NamedLate → Option NamedLate
with_number_late number None = None
with_number_late number (Some late) = Some (record late { names = record late.names { numbers = number ∷ late.names.numbers } })

abbrev pub with_first_late : Option ℕ → (ℕ → Option NamedLate) → Option NamedLate
with_first_late None later = None
with_first_late (Some number) later = with_number_late number (later number)

abbrev pub all_named_late : (highest : ℕ) → List AckWord → (gap last : ℕ) → Option NamedLate
all_named_late highest [] gap last = Some (record { names = record { numbers = []; last = last }; gap = gap })
all_named_late highest (word ∷ words) gap last =
    if is_of_data word.qualifier
    then with_first_late (named_late gap last highest word.number) (λ number. all_named_late highest words (last - number) (max last number))
    else all_named_late highest words gap last

abbrev pub went_on : TrueSegments → TrueSegments → ℕ
went_on before after = after.last - before.last

abbrev pub new_late : Option NamedLate → (segsize : ℕ) → SegmentValue → TrueSegments → Result (Late TrueSegments Numbers) LinkRefusal
new_late None segsize s f = Err WrongAck
new_late (Some late) segsize s f = with_gap (λ sent. late.gap) (sends_new segsize (piece_of s) late.names f)

abbrev pub sends_late : (gap segsize : ℕ) → SegmentValue → TrueSegments → Result (Late TrueSegments Numbers) LinkRefusal
sends_late gap segsize s f =
    if is_new s f
    then new_late (all_named_late (highest_received f) s.acks gap f.last) segsize s f
    else with_gap (λ sent. wider gap (went_on f sent.segments)) (sends_segment segsize s f)

-- ---- what comes, by its true numbers

-- an acknowledgement acknowledges all segments through its number
abbrev pub acknowledged_through : TrueSegments → ℕ → TrueSegments
acknowledged_through f number = if nat_lt f.acknowledged number && nat_le number (highest_given f) then record f { acknowledged = number } else f

abbrev pub takes_acks : List AckWord → Numbers → TrueSegments → TrueSegments
takes_acks words known f = fold acknowledged_through f known.acknowledgements

-- a segment that was not received yet is held; one that was is ignored
abbrev pub with_segment : (number : ℕ) → Piece → TrueSegments → TrueSegments
with_segment number p f = record f { received = hold (number - 1) p f.received }

abbrev pub takes_segment : SegmentValue → Numbers → TrueSegments → TrueSegments
takes_segment s known f = with_segment known.segment (piece_of s) (takes_acks s.acks known f)

-- ---- the book; an end changes nothing, and no list is ever cut

abbrev pub unchanged : TrueSegments → TrueSegments
unchanged f = f

abbrev pub true_segments : SegmentBook TrueSegments Numbers
true_segments = record {
  empty = empty;
  hands_in = hands_in;
  delivers = delivers;
  sends_segment = sends_segment;
  sends_acks = sends_acks;
  sends_other = sends_other;
  sends_late = sends_late;
  went_on = went_on;
  takes_segment = takes_segment;
  takes_acks = takes_acks;
  ends = unchanged;
  forgets = unchanged;
}
