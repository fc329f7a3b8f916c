-- What a node's links answer, with queues or without, when they are asked for a message: a permit, or else the first check that it does not pass,
-- by its name, with what is seen there and what is allowed. The checks are those of `Table` and `WireSegments` of `dna_links`, in their order.
use Rattle.std.specs.Prelude.{ℕ, ◌+◌, ◌-◌, Bool, true, false, ◌&&◌, ◌||◌, not, ◌==◌, nat_lt, nat_le, min, if◌then◌else◌, Option, Some, None}
use Rattle.std.specs.Prelude.{List, [], ◌∷◌, length, take, slice_get, Result, Ok, Err}
use Rattle.dna_packet.specs.Nsp.{SegmentValue, NspValue, DataSegment, LinkService, DataAck, OtherDataAck, ConnectAck, NoOperation, ConnectInitiate}
use Rattle.dna_packet.specs.Nsp.{ConnectConfirm, DisconnectInitiate, DisconnectConfirm}
use Rattle.dna_packet.specs.declared.ack_word.AckWord.{AckWord}
use Rattle.dna_station.specs.declared.link_refusal.LinkRefusal.{LinkRefusal}
use Rattle.dna_station.specs.declared.link_refusal.LinkRefusal.TheVariants.{WrongNode, NoLink, LinkState, WrongSegment, WrongAck}
use Rattle.dna_station.specs.declared.link_refusal.LinkRefusal.TheVariants.{SegmentTooLong, LinkWindowFull}
use Rattle.dna_links.specs.declared.port.Phase.{Phase}
use Rattle.dna_links.specs.declared.port.Phase.TheVariants.{Calling, Confirming, Running, Disconnecting}
use Rattle.dna_links.specs.declared.port.LinkTest.{LinkTest}
use Rattle.dna_links.specs.declared.port.LinkTest.TheVariants.{HasAddress, TheLink, OpenedAt, CalledBy, BegunBy}
use Rattle.dna_links.specs.declared.queue.Queues.{Queues}
use Rattle.dna_links.specs.declared.queue.Queues.TheVariants.{Without, With}
use Rattle.dna_links.specs.declared.queue.Said.{Said}
use Rattle.dna_links.specs.declared.queue.Said.TheVariants.{OfRun, Disconnect}
use Rattle.dna_links.specs.SegmentBook.{REACH, wire, distance, is_of_data}
use Rattle.dna_links.specs.Links.{LinkOf, Carried, with_link, with_seen}
use Rattle.dna_links.specs.Queues.{in_use, with_in_use, may_send}
use Rattle.dna_links.specs.Segmentation.{Piece, piece_of, same_piece, Unsent, is_next_piece}
use Rattle.dna_links.specs.WireSegments.{WireSegments, LastSent, LateSent, last_named, last_named_late, gap_at, last_of, is_new, highest_given}
use Rattle.dna_links.specs.WireLinks.{WireLinks}
use Rattle.nsp_link.specs.Missing.{missing, refusal_in}
use Rattle.nsp_link.specs.declared.failed.FailedLinkSending.{FailedLinkSending}
use Rattle.nsp_link.specs.declared.failed.FailedLinkSending.TheVariants as failed
use Rattle.nsp_link.specs.declared.failed.NextPiece.{NextPiece}
use Rattle.nsp_link.specs.declared.failed.Nodes.{Nodes}
use Rattle.nsp_link.specs.declared.failed.Numbers.{Numbers}
use Rattle.nsp_link.specs.declared.failed.PieceShape.{PieceShape}
use Rattle.nsp_link.specs.declared.permit.LinkSendPermit.{LinkSendPermit}
use Rattle.nsp_link.specs.declared.permit.LinkSendPermit.TheVariants.{OfNoLink, OfLink, Shows, GoesOn, Gives, Drops, Settles}

-- after a check that is passed comes the next one
abbrev pub or_next : {F : Type 0} → Option F → Option F → Option F
or_next None next = next
or_next (Some failed) next = Some failed

-- a check that is not passed is named; after one that is passed comes the answer to the next ones
abbrev pub unless : {P F : Type 0} → Bool → F → Result P F → Result P F
unless true failed next = next
unless false failed next = Err failed

abbrev pub then_asked : {X P F : Type 0} → Result X F → (X → Result P F) → Result P F
then_asked (Ok x) next = next x
then_asked (Err failed) next = Err failed

-- ---- numbers that are allowed

-- so many below a number, if any
abbrev pub from_below : (number count : ℕ) → Option ℕ
from_below number count = if nat_le 1 count then Some (wire (number + 4096 - count)) else None

abbrev pub is_again : Option ℕ → (lowest number : ℕ) → Bool
is_again None lowest number = false
is_again (Some earliest) lowest number = nat_le (distance number lowest) (distance earliest lowest)

abbrev pub is_allowed : Numbers → ℕ → Bool
is_allowed n number = nat_le (distance n.lowest number) (distance n.lowest n.highest) || is_again n.again n.lowest number

-- ---- acknowledgement words

-- how far a word of a segment that is sent again may reach back
abbrev pub words_back : LastSent → ℕ
words_back sent = if sent.is_high then REACH else min REACH sent.last

abbrev pub word_numbers : (again : Bool) (received : ℕ) → LastSent → Numbers
word_numbers again received sent = record {
  lowest = sent.last;
  highest = received;
  again = if again then from_below sent.last (words_back sent) else None;
}

-- the word after which there is no last one fails; else the later ones may
abbrev pub failed_behind : {P : Type 0} → Option LastSent → FailedLinkSending → (LastSent → Result P FailedLinkSending) → Result P FailedLinkSending
failed_behind None word later = Err word
failed_behind (Some sent) word later = later sent

-- the last one after these words
abbrev pub asked_words : (again : Bool) (received : ℕ) → List AckWord → LastSent → Result LastSent FailedLinkSending
asked_words again received [] sent = Ok sent
asked_words again received (word ∷ words) sent =
    if is_of_data word.qualifier
    then failed_behind (last_named again received word.number sent) (failed.Acknowledgement word.number (word_numbers again received sent))
    (λ next. asked_words again received words next)
    else asked_words again received words sent

abbrev pub asked_acks : (link : ℕ) → List AckWord → WireSegments → Result LinkSendPermit FailedLinkSending
asked_acks link words f = then_asked (asked_words false f.variables.received words (last_of f)) (λ sent. Ok (GoesOn link sent))

-- with queues: in a new segment, where a word may lie so far below the last one sent
abbrev pub late_numbers : (received : ℕ) → LateSent → Numbers
late_numbers received late = record {
  lowest = late.sent.last;
  highest = received;
  again = from_below late.sent.last (min late.gap (words_back late.sent));
}

abbrev pub asked_late : (received : ℕ) → List AckWord → LateSent → Result LateSent FailedLinkSending
asked_late received [] late = Ok late
asked_late received (word ∷ words) late =
    if is_of_data word.qualifier
    then failed_behind (last_named_late received word.number late) (failed.Acknowledgement word.number (late_numbers received late))
    (λ next. asked_late received words (record { sent = next; gap = gap_at received word.number late.sent }))
    else asked_late received words late

-- ---- segments

abbrev pub shape_of : Piece → PieceShape
shape_of p = record { begins = p.begins; ends = p.ends; length = length p.body }

-- so many of the next bytes
abbrev pub front_piece : (begun : Bool) → ℕ → List ℕ → Piece
front_piece begun count rest = record { begins = not begun; ends = count == length rest; body = take count rest }

-- what is left of the current message
abbrev pub next_of : Bool → Option (List ℕ) → Option NextPiece
next_of begun None = None
next_of begun (Some rest) = Some (record { begins = not begun; left = length rest })

abbrev pub next_in : Unsent → Option NextPiece
next_in u = next_of u.begun (slice_get u.messages 0)

-- the permit, where these checks are passed too
abbrev pub asked_new : (segsize : ℕ) → Piece → WireSegments → LinkSendPermit → Result LinkSendPermit FailedLinkSending
asked_new segsize p f permit =
    unless (nat_lt (length f.variables.outstanding) REACH) (failed.Room (length f.variables.outstanding) 2046)
    (unless (nat_le (length p.body) segsize) (failed.Length (length p.body) segsize)
    (unless (is_next_piece p f.variables.unsent) (failed.NextPiece (shape_of p) (next_in f.variables.unsent)) (Ok permit)))

-- how many of the last ones may be sent again
abbrev pub segments_back : WireSegments → ℕ
segments_back f = if f.gave_many then REACH else min REACH (highest_given f.variables)

-- the next one, or again one of the last
abbrev pub segment_numbers : WireSegments → Numbers
segment_numbers f = record {
  lowest = wire (highest_given f.variables + 1);
  highest = wire (highest_given f.variables + 1);
  again = from_below (wire (highest_given f.variables + 1)) (segments_back f);
}

abbrev pub asked_given : SegmentValue → Option Piece → LinkSendPermit → Result LinkSendPermit FailedLinkSending
asked_given s None permit = Ok permit
asked_given s (Some first) permit =
    unless (same_piece (piece_of s) first) (failed.AsFirstGiven s.number (shape_of (piece_of s)) (shape_of first)) (Ok permit)

-- so far below the highest given, a segment is outstanding or acknowledged
abbrev pub asked_repeat : (below : ℕ) → SegmentValue → List Piece → LinkSendPermit → Result LinkSendPermit FailedLinkSending
asked_repeat below s outstanding permit =
    if nat_le (length outstanding) below then Ok permit else asked_given s (slice_get outstanding (length outstanding - 1 - below)) permit

abbrev pub may_repeat : (below : ℕ) → WireSegments → Bool
may_repeat below f = nat_lt below REACH && (f.gave_many || nat_lt below (highest_given f.variables))

abbrev pub asked_below : (below : ℕ) → SegmentValue → WireSegments → LinkSendPermit → Result LinkSendPermit FailedLinkSending
asked_below below s f permit =
    unless (may_repeat below f) (failed.Number s.number (segment_numbers f)) (asked_repeat below s f.variables.outstanding permit)

abbrev pub asked_again : (link : ℕ) → SegmentValue → WireSegments → Result LinkSendPermit FailedLinkSending
asked_again link s f =
    then_asked (asked_words true f.variables.received s.acks (last_of f)) (λ sent.
    asked_below (distance s.number (highest_given f.variables)) s f (GoesOn link sent))

abbrev pub asked_segment : (link segsize : ℕ) → SegmentValue → WireSegments → Result LinkSendPermit FailedLinkSending
asked_segment link segsize s f =
    if is_new s f.variables
    then then_asked (asked_words false f.variables.received s.acks (last_of f)) (λ sent.
    asked_new segsize (piece_of s) f (Gives link (record { sent = sent; gap = 0 })))
    else asked_again link s f

-- with queues the words of a new one may reach back
abbrev pub asked_segment_late : (link gap segsize : ℕ) → SegmentValue → WireSegments → Result LinkSendPermit FailedLinkSending
asked_segment_late link gap segsize s f =
    if is_new s f.variables
    then then_asked (asked_late f.variables.received s.acks (record { sent = last_of f; gap = gap })) (λ late.
    asked_new segsize (piece_of s) f (Gives link late))
    else asked_again link s f

abbrev pub asked_segment_of : Queues → SegmentValue → ℕ → LinkOf WireSegments → Result LinkSendPermit FailedLinkSending
asked_segment_of Without s number link = asked_segment number link.segsize s link.segments
asked_segment_of With s number link = asked_segment_late number link.queue.gap link.segsize s link.segments

-- ---- which link

abbrev pub nodes_of : Carried → Nodes
nodes_of packet = record { source = packet.src; destination = packet.dst }

-- the phase that is seen; with queues that in which something waits, and what is remembered
abbrev pub out_of_turn : Queues → Phase → ℕ → LinkOf WireSegments → FailedLinkSending
out_of_turn Without wanted number link = failed.Phase number link.port.phase wanted
out_of_turn With wanted number link = failed.Turn number (in_use With link).phase link.queue wanted

-- a connect acknowledgement where no live link is found
abbrev pub asked_waiting : Queues → LinkTest → WireLinks → Result LinkSendPermit FailedLinkSending
asked_waiting Without test s = Err (failed.NoLink (missing test s))
asked_waiting With test s = with_seen (in_use With) test s (Err (failed.NoLink (missing test s))) (λ number link. Ok OfNoLink)

-- a DC with this address
abbrev pub asked_to_settle : Queues → (own : ℕ) → WireLinks → Result LinkSendPermit FailedLinkSending
asked_to_settle Without own s = Ok OfNoLink
asked_to_settle With own s = with_link (HasAddress own) s (Ok OfNoLink) (λ number link. Ok (Settles number))

-- a message that shows how far its link has come, and nothing else
abbrev pub showing : Queues → Said → ℕ → LinkSendPermit
showing Without said number = OfLink number
showing With said number = Shows number said

module _ (queues : Queues) where
  -- a DC: not between the addresses of a live link; with address 0 it may end the call that it is for
  abbrev pub asked_end : (src dst : ℕ) → WireLinks → Result LinkSendPermit FailedLinkSending
  asked_end src dst s =
      with_link (TheLink src dst) s
      (if src == 0 then with_link (CalledBy dst) s (Ok OfNoLink) (λ number link. Ok (Drops number)) else asked_to_settle queues src s)
      (λ number link. Err (failed.Live number))

  abbrev pub asked_in_turn : LinkTest → Phase → (ℕ → LinkOf WireSegments → Result LinkSendPermit FailedLinkSending) → WireLinks →
      Result LinkSendPermit FailedLinkSending
  asked_in_turn test wanted next s = with_in_use queues test s (Err (failed.NoLink (missing test s))) (λ number link.
      unless (may_send queues wanted link) (out_of_turn queues wanted number link) (next number link))

  abbrev pub asked_of_link : LinkTest → Phase → WireLinks → Result LinkSendPermit FailedLinkSending
  asked_of_link test wanted s = asked_in_turn test wanted (λ number link. Ok (OfLink number)) s

  abbrev pub asked_to_show : LinkTest → Phase → Said → WireLinks → Result LinkSendPermit FailedLinkSending
  asked_to_show test wanted said s = asked_in_turn test wanted (λ number link. Ok (showing queues said number)) s

  -- ---- a row for each message

  abbrev pub asked_message : WireLinks → NspValue → Result LinkSendPermit FailedLinkSending
  asked_message s (ConnectInitiate retransmitted src services info segsize user_data) = asked_of_link (OpenedAt src) Calling s
  asked_message s (ConnectAck dst) = with_link (BegunBy dst) s (asked_waiting queues (BegunBy dst) s) (λ number link. Ok (OfLink number))
  asked_message s (ConnectConfirm dst src services info segsize user_data) = asked_of_link (TheLink src dst) Confirming s
  asked_message s (DisconnectInitiate dst src reason user_data) = asked_to_show (TheLink src dst) Disconnecting Disconnect s
  asked_message s (DisconnectConfirm dst src reason) = asked_end src dst s
  asked_message s (DataSegment segment) =
      asked_in_turn (TheLink segment.srcaddr segment.dstaddr) Running (asked_segment_of queues segment) s
  asked_message s (DataAck dst src acks) = asked_in_turn (TheLink src dst) Running (λ number link. asked_acks number acks link.segments) s
  asked_message s (LinkService interrupt dst src rest) = asked_to_show (TheLink src dst) Running OfRun s
  asked_message s (OtherDataAck dst src rest) = asked_to_show (TheLink src dst) Running OfRun s
  asked_message s (NoOperation rest) = Ok OfNoLink

  abbrev pub asked_sending : WireLinks → Carried → Result LinkSendPermit FailedLinkSending
  asked_sending s packet =
      unless (packet.src == s.node && packet.dst == s.peer) (failed.Nodes (nodes_of packet) (record { source = s.node; destination = s.peer }))
      (asked_message s packet.message)

  -- the check alone, if there is one
  abbrev pub failed_sending : WireLinks → Carried → Option FailedLinkSending
  failed_sending s packet = refusal_in (asked_sending s packet)

-- the refusal of each
abbrev pub refusal_of_sending : FailedLinkSending → LinkRefusal
refusal_of_sending (failed.Nodes seen allowed) = WrongNode
refusal_of_sending (failed.NoLink link) = NoLink
refusal_of_sending (failed.Phase link seen allowed) = LinkState
refusal_of_sending (failed.Turn link seen queue wanted) = LinkState
refusal_of_sending (failed.Live link) = LinkState
refusal_of_sending (failed.Acknowledgement seen allowed) = WrongAck
refusal_of_sending (failed.Room seen allowed) = LinkWindowFull
refusal_of_sending (failed.Length seen allowed) = SegmentTooLong
refusal_of_sending (failed.NextPiece seen allowed) = WrongSegment
refusal_of_sending (failed.Number seen allowed) = WrongSegment
refusal_of_sending (failed.AsFirstGiven number seen allowed) = WrongSegment
