-- What a message for which the links gave a permit makes of them, and what holds of its link then; for private contracts and for proofs.
use Rattle.std.specs.Prelude.{◌≡◌, ℕ, ◌<◌, Bool, true, Option, Some, None, length, slice_get}
use Rattle.dna_packet.specs.Nsp.{SegmentValue, NspValue, DataSegment}
use Rattle.dna_links.specs.declared.queue.Queues.{Queues}
use Rattle.dna_links.specs.declared.queue.Queues.TheVariants.{Without, With}
use Rattle.dna_links.specs.declared.queue.Said.TheVariants.{OfRun}
use Rattle.dna_links.specs.SegmentBook.{distance, wider}
use Rattle.dna_links.specs.Segmentation.{Piece, piece_of, is_next_piece}
use Rattle.dna_links.specs.Links.{LinkOf, changed, on_link, with_segments}
use Rattle.dna_links.specs.Queues.{drops, settled, shows}
use Rattle.dna_links.specs.Sending.{Sent}
use Rattle.dna_links.specs.inner.Forms.{of_no_link, truth_of, unchanged}
use Rattle.dna_links.specs.WireSegments.{WireSegments, LastSent, LateSent, wire_segments, with_last, with_new}
use Rattle.dna_links.specs.WireLinks.{WireLinks}
use Rattle.nsp_link.specs.declared.permit.LinkSendPermit.{LinkSendPermit}
use Rattle.nsp_link.specs.declared.permit.LinkSendPermit.TheVariants.{OfNoLink, OfLink, Shows, GoesOn, Gives, Drops, Settles}
use Rattle.nsp_link.specs.inner.Indexing.{KeepsAt, LivesAt}

-- ---- of one link

abbrev pub numbers_of : WireSegments → (gap : ℕ) → LinkOf WireSegments → LinkOf WireSegments
numbers_of segments gap link = record link { segments = segments; queue = record link.queue { gap = gap } }

-- this is the last acknowledgement from then on
abbrev pub went_on : Queues → LastSent → LinkOf WireSegments → LinkOf WireSegments
went_on Without sent link = with_segments (with_last sent link.segments) link
went_on With sent link =
    shows wire_segments OfRun
    (numbers_of (with_last sent link.segments) (wider link.queue.gap (distance link.segments.last sent.last)) link)

-- this piece is given
abbrev pub gave : Queues → Piece → LateSent → LinkOf WireSegments → LinkOf WireSegments
gave Without p late link = with_segments (with_last late.sent (with_new p link.segments)) link
gave With p late link = shows wire_segments OfRun (numbers_of (with_last late.sent (with_new p link.segments)) late.gap link)

-- ---- of all

-- what is made of the link with this number, and else nothing
abbrev pub at_link : ℕ → WireLinks → (LinkOf WireSegments → Sent WireSegments (Unit {0})) → Sent WireSegments (Unit {0})
at_link number s made = on_link number (slice_get s.links number) (of_no_link wire_segments s) (λ n link. made link)

abbrev pub of_link : ℕ → WireLinks → LinkOf WireSegments → Sent WireSegments (Unit {0})
of_link number s link = unchanged wire_segments s number link

abbrev pub sent_by : ℕ → WireLinks → (LinkOf WireSegments → LinkOf WireSegments) → LinkOf WireSegments → Sent WireSegments (Unit {0})
sent_by number s becomes link = record { links = changed number (becomes link) s; truth = truth_of wire_segments number link tt }

abbrev pub settling : ℕ → WireLinks → LinkOf WireSegments → Sent WireSegments (Unit {0})
settling number s link = record {
  links = changed number (settled wire_segments link.queue.waits link) s;
  truth = record { tag = record { link = None; partner = None }; known = tt };
}

-- the segment, if the message is one
abbrev pub segment_in : NspValue → Option SegmentValue
segment_in (DataSegment segment) = Some segment
segment_in m = None

abbrev pub gives_in : Queues → Option SegmentValue → LateSent → ℕ → WireLinks → Sent WireSegments (Unit {0})
gives_in queues None late number s = of_no_link wire_segments s
gives_in queues (Some segment) late number s = at_link number s (sent_by number s (gave queues (piece_of segment) late))

abbrev pub permitted : Queues → Option SegmentValue → WireLinks → LinkSendPermit → Sent WireSegments (Unit {0})
permitted queues o s OfNoLink = of_no_link wire_segments s
permitted queues o s (OfLink number) = at_link number s (of_link number s)
permitted queues o s (Shows number said) = at_link number s (sent_by number s (shows wire_segments said))
permitted queues o s (GoesOn number sent) = at_link number s (sent_by number s (went_on queues sent))
permitted queues o s (Gives number late) = gives_in queues o late number s
permitted queues o s (Drops number) = at_link number s (sent_by number s (drops wire_segments queues))
permitted queues o s (Settles number) = at_link number s (settling number s)

-- ---- what holds of the link

-- the link with this number has room for the segment, which carries its next bytes
abbrev pub IsNextAt : Option SegmentValue → ℕ → WireLinks → Type 0
IsNextAt None number s = ⊥
IsNextAt (Some segment) number s = (link : LinkOf WireSegments) → slice_get s.links number ≡ Some link →
    (length link.segments.variables.outstanding < 2047) × (is_next_piece (piece_of segment) link.segments.variables.unsent ≡ true)

abbrev pub Fits : Option SegmentValue → (memory : Bool) → WireLinks → LinkSendPermit → Type 0
Fits o memory s OfNoLink = Unit {0}
Fits o memory s (OfLink number) = number < length s.links
Fits o memory s (Shows number said) = number < length s.links
Fits o memory s (GoesOn number sent) = (number < length s.links) × KeepsAt number s
Fits o memory s (Gives number late) = (number < length s.links) × KeepsAt number s × IsNextAt o number s × (memory ≡ true)
Fits o memory s (Drops number) = (number < length s.links) × LivesAt number s
Fits o memory s (Settles number) = number < length s.links
