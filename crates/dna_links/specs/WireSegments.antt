-- The segments of one link as a node keeps them: numbers modulo 4,096, what is not given, what is not acknowledged, what is not
-- delivered, and of a message its bytes alone. Their steps are those of `TrueSegments` made on that. They have to agree with those where an
-- arriving segment is at most 2,047 from the highest received, an arriving acknowledgement at most 2,047 below the highest acknowledged
-- and not above the highest given, and the highest received at most 2,047 above the last acknowledgement sent.
use Rattle.std.specs.Prelude.{ℕ, ◌+◌, ◌-◌, Bool, true, false, ◌&&◌, ◌||◌, not, ◌==◌, nat_lt, nat_le, if◌then◌else◌, Option, Some, None, List, [], ◌∷◌}
use Rattle.std.specs.Prelude.{◌++◌, length, take, drop, fold, slice_get, Result, Ok, Err}
use Rattle.std.specs.Str.{bytes_eq}
use Rattle.dna_packet.specs.declared.ack_word.AckWord.{AckWord}
use Rattle.dna_packet.specs.Nsp.{SegmentValue}
use Rattle.dna_station.specs.declared.link_refusal.LinkRefusal.{LinkRefusal}
use Rattle.dna_station.specs.declared.link_refusal.LinkRefusal.TheVariants.{WrongSegment, WrongAck, SegmentTooLong, LinkWindowFull}
use Rattle.dna_links.specs.Segmentation.{Piece, piece_of, same_piece, Unsent, none_unsent, with_message, is_next_piece, without_piece, in_order, hold}
use Rattle.dna_links.specs.Segmentation.{Whole, next_message, in_whole_messages}
use Rattle.dna_links.specs.SegmentBook.{SegmentBook, Sending, Late, with_gap, wider, REACH, wire, distance, is_of_data}
use Rattle.dna_links.specs.Links.{check}

-- what any node keeps
pub record LinkVariables : Type 0 where
  -- what was handed in and is in no segment yet
  pub unsent : Unsent
  -- the highest number acknowledged by the partner, modulo 4,096
  pub acknowledged : ℕ
  -- the segments given and not acknowledged, the one after the acknowledged number first
  pub outstanding : List Piece
  -- the highest number received without a gap, modulo 4,096
  pub received : ℕ
  -- the segments received, from the first that is not delivered on; None for each that is missing
  pub pieces : List (Option Piece)

-- and what the judge keeps of them besides
pub record WireSegments : Type 0 where
  pub variables : LinkVariables
  -- whether the highest number given has reached 2,047
  pub gave_many : Bool
  -- the last acknowledgement sent, modulo 4,096, and whether it has reached 2,047
  pub last : ℕ
  pub last_is_high : Bool

-- with these pieces, and nothing else
abbrev pub with_pieces_alone : List (Option Piece) → WireSegments
with_pieces_alone pieces = record {
  variables = record { unsent = none_unsent; acknowledged = 0; outstanding = []; received = 0; pieces = pieces };
  gave_many = false;
  last = 0;
  last_is_high = false;
}

abbrev pub empty : WireSegments
empty = with_pieces_alone []

-- the highest number given, modulo 4,096
abbrev pub highest_given : LinkVariables → ℕ
highest_given k = wire (k.acknowledged + length k.outstanding)

-- ---- the user's messages

abbrev pub hands_in : List ℕ → WireSegments → WireSegments
hands_in message f = record f { variables = record f.variables { unsent = with_message message f.variables.unsent } }

abbrev pub delivered_as : Bool → Whole → WireSegments → Option WireSegments
delivered_as true w f = Some (record f { variables = record f.variables { pieces = drop w.pieces f.variables.pieces } })
delivered_as false w f = None

abbrev pub delivers_whole : Option Whole → List ℕ → WireSegments → Option WireSegments
delivers_whole None message f = None
delivers_whole (Some w) message f = delivered_as (bytes_eq message w.message) w f

abbrev pub delivers : List ℕ → WireSegments → Option WireSegments
delivers message f = delivers_whole (next_message f.variables.pieces) message f

-- ---- acknowledgement words that are sent

-- the last acknowledgement sent, and whether it has reached 2,047
pub record LastSent : Type 0 where
  pub last : ℕ
  pub is_high : Bool

-- a word names a number from the last one sent through the highest received
abbrev pub is_ahead : (received number : ℕ) → LastSent → Bool
is_ahead received number sent = nat_le (distance sent.last number) (distance sent.last received)

-- or an earlier one, at most 2,047 below; while the last has not reached 2,047, not below 0
abbrev pub is_behind : ℕ → LastSent → Bool
is_behind number sent = nat_le (distance number sent.last) REACH && (sent.is_high || nat_le (distance number sent.last) sent.last)

abbrev pub moved_to : ℕ → LastSent → LastSent
moved_to number sent = record { last = wire number; is_high = sent.is_high || nat_le REACH (sent.last + distance sent.last number) }

abbrev pub last_named : (again : Bool) (received number : ℕ) → LastSent → Option LastSent
last_named again received number sent =
    if is_ahead received number sent then Some (moved_to number sent) else
    if again && is_behind number sent then Some sent else
    None

abbrev pub after_first : Option LastSent → (LastSent → Option LastSent) → Option LastSent
after_first None later = None
after_first (Some sent) later = later sent

abbrev pub all_named : (again : Bool) (received : ℕ) → List AckWord → LastSent → Option LastSent
all_named again received [] sent = Some sent
all_named again received (word ∷ words) sent =
    if is_of_data word.qualifier
    then after_first (last_named again received word.number sent) (λ next. all_named again received words next)
    else all_named again received words sent

abbrev pub last_of : WireSegments → LastSent
last_of f = record { last = f.last; is_high = f.last_is_high }

abbrev pub with_last : LastSent → WireSegments → WireSegments
with_last sent f = record f { last = sent.last; last_is_high = sent.is_high }

-- ---- what is sent; nothing but its bytes is known of a message

abbrev pub sending : WireSegments → Sending WireSegments (Unit {0})
sending f = record { segments = f; known = tt }

abbrev pub sends_other : WireSegments → Unit {0}
sends_other f = tt

abbrev pub acks_named : Option LastSent → WireSegments → Result (Sending WireSegments (Unit {0})) LinkRefusal
acks_named None f = Err WrongAck
acks_named (Some sent) f = Ok (sending (with_last sent f))

abbrev pub sends_acks : List AckWord → WireSegments → Result (Sending WireSegments (Unit {0})) LinkRefusal
sends_acks words f = acks_named (all_named false f.variables.received words (last_of f)) f

-- the highest number given rises by one, and may reach 2,047
abbrev pub with_new : Piece → WireSegments → WireSegments
with_new p f = record f {
  variables = record f.variables { unsent = without_piece p f.variables.unsent; outstanding = f.variables.outstanding ++ p ∷ [] };
  gave_many = f.gave_many || nat_le REACH (highest_given f.variables + 1);
}

abbrev pub sends_new : (segsize : ℕ) → Piece → LastSent → WireSegments → Result (Sending WireSegments (Unit {0})) LinkRefusal
sends_new segsize p sent f =
    check (nat_lt (length f.variables.outstanding) REACH) LinkWindowFull
    (check (nat_le (length p.body) segsize) SegmentTooLong
    (check (is_next_piece p f.variables.unsent) WrongSegment
    (Ok (sending (with_last sent (with_new p f))))))

abbrev pub is_given : Option Piece → Piece → Bool
is_given None p = false
is_given (Some first) p = same_piece p first

-- so far below the highest given, a segment is outstanding or acknowledged
abbrev pub is_repeat : (below : ℕ) → Piece → List Piece → Bool
is_repeat below p outstanding = nat_le (length outstanding) below || is_given (slice_get outstanding (length outstanding - 1 - below)) p

abbrev pub sends_again : (below : ℕ) → Piece → LastSent → WireSegments → Result (Sending WireSegments (Unit {0})) LinkRefusal
sends_again below p sent f =
    check (nat_lt below REACH && (f.gave_many || nat_lt below (highest_given f.variables))) WrongSegment
    (check (is_repeat below p f.variables.outstanding) WrongSegment
    (Ok (sending (with_last sent f))))

abbrev pub is_new : SegmentValue → LinkVariables → Bool
is_new s k = s.number == wire (highest_given k + 1)

abbrev pub segment_named : Option LastSent → (segsize : ℕ) → SegmentValue → WireSegments → Result (Sending WireSegments (Unit {0})) LinkRefusal
segment_named None segsize s f = Err WrongAck
segment_named (Some sent) segsize s f =
    if is_new s f.variables then sends_new segsize (piece_of s) sent f else sends_again (distance s.number (highest_given f.variables))
    (piece_of s) sent f

abbrev pub sends_segment : (segsize : ℕ) → SegmentValue → WireSegments → Result (Sending WireSegments (Unit {0})) LinkRefusal
sends_segment segsize s f = segment_named (all_named (not (is_new s f.variables)) f.variables.received s.acks (last_of f)) segsize s f

-- ---- what is sent, with queues

-- the last acknowledgement sent, and how far the last one of a new segment lies below it
pub record LateSent : Type 0 where
  pub sent : LastSent
  pub gap : ℕ

-- in a new segment a word may also name an earlier number, at most `gap` below the last one sent
abbrev pub last_named_late : (received number : ℕ) → LateSent → Option LastSent
last_named_late received number late = last_named (nat_le (distance number late.sent.last) late.gap) received number late.sent

-- how far the number lies below the last one sent then
abbrev pub gap_at : (received number : ℕ) → LastSent → ℕ
gap_at received number sent = if is_ahead received number sent then 0 else distance number sent.last

abbrev pub after_first_late : Option LastSent → (LastSent → Option LateSent) → Option LateSent
after_first_late None later = None
after_first_late (Some sent) later = later sent

abbrev pub all_named_late : (received : ℕ) → List AckWord → LateSent → Option LateSent
all_named_late received [] late = Some late
all_named_late received (word ∷ words) late =
    if is_of_data word.qualifier
    then after_first_late (last_named_late received word.number late)
    (λ next. all_named_late received words (record { sent = next; gap = gap_at received word.number late.sent }))
    else all_named_late received words late

abbrev pub went_on : WireSegments → WireSegments → ℕ
went_on before after = distance before.last after.last

abbrev pub new_late : Option LateSent → (segsize : ℕ) → SegmentValue → WireSegments → Result (Late WireSegments (Unit {0})) LinkRefusal
new_late None segsize s f = Err WrongAck
new_late (Some late) segsize s f = with_gap (λ sent. late.gap) (sends_new segsize (piece_of s) late.sent f)

abbrev pub sends_late : (gap segsize : ℕ) → SegmentValue → WireSegments → Result (Late WireSegments (Unit {0})) LinkRefusal
sends_late gap segsize s f =
    if is_new s f.variables
    then new_late (all_named_late f.variables.received s.acks (record { sent = last_of f; gap = gap })) segsize s f
    else with_gap (λ sent. wider gap (went_on f sent.segments)) (sends_segment segsize s f)

-- ---- what comes

-- an acknowledgement counts where it lies at most as far above the acknowledged number as segments are outstanding
abbrev pub acknowledged_to : Bool → LinkVariables → ℕ → LinkVariables
acknowledged_to true k number = record k { acknowledged = wire number; outstanding = drop (distance k.acknowledged number) k.outstanding }
acknowledged_to false k number = k

abbrev pub acknowledged_by : LinkVariables → AckWord → LinkVariables
acknowledged_by k word =
    acknowledged_to (is_of_data word.qualifier && nat_le (distance k.acknowledged word.number) (length k.outstanding)) k word.number

abbrev pub acknowledged_by_all : List AckWord → LinkVariables → LinkVariables
acknowledged_by_all words k = fold acknowledged_by k words

abbrev pub held : (above : ℕ) → Piece → LinkVariables → List (Option Piece)
held above p k = hold (in_order k.pieces + above - 1) p k.pieces

abbrev pub with_pieces : List (Option Piece) → LinkVariables → LinkVariables
with_pieces pieces k = record k { received = wire (k.received + (in_order pieces - in_order k.pieces)); pieces = pieces }

-- SEGNUM that lies 1 to 2,047 above the highest received without a gap is that number; any other counts as received
abbrev pub with_segment : (above : ℕ) → Piece → LinkVariables → LinkVariables
with_segment above p k = if nat_le 1 above && nat_le above REACH then with_pieces (held above p k) k else k

abbrev pub segment_taken : SegmentValue → LinkVariables → LinkVariables
segment_taken s k = with_segment (distance k.received s.number) (piece_of s) k

abbrev pub takes_acks : List AckWord → Unit {0} → WireSegments → WireSegments
takes_acks words known f = record f { variables = acknowledged_by_all words f.variables }

abbrev pub takes_segment : SegmentValue → Unit {0} → WireSegments → WireSegments
takes_segment s known f = record f { variables = segment_taken s (acknowledged_by_all s.acks f.variables) }

-- ---- a link that has ended keeps what `Up` may still deliver, and nothing else; once its address is given again, nothing at all

abbrev pub ends : WireSegments → WireSegments
ends f = with_pieces_alone (take (in_whole_messages f.variables.pieces) f.variables.pieces)

abbrev pub forgets : WireSegments → WireSegments
forgets f = empty

abbrev pub wire_segments : SegmentBook WireSegments (Unit {0})
wire_segments = record {
  empty = empty;
  hands_in = hands_in;
  delivers = delivers;
  sends_segment = sends_segment;
  sends_acks = sends_acks;
  sends_other = sends_other;
  sends_late = sends_late;
  went_on = went_on;
  takes_segment = takes_segment;
  takes_acks = takes_acks;
  ends = ends;
  forgets = forgets;
}
