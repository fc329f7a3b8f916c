-- The bytes of a node with which its links compare those of a segment or of a message: what was handed in and is not given, what a segment first
-- carried, and what came and is not delivered.
use Rattle.std.specs.Prelude.{ℕ, ◌-◌, if◌then◌else◌, nat_le, Option, None, option_map, List, length, slice_get}
use Rattle.dna_packet.specs.Nsp.{SegmentValue}
use Rattle.dna_links.specs.declared.port.LinkTest.TheVariants.{HasAddress, TheLink}
use Rattle.dna_links.specs.SegmentBook.{distance}
use Rattle.dna_links.specs.Links.{with_link}
use Rattle.dna_links.specs.Segmentation.{Piece}
use Rattle.dna_links.specs.WireSegments.{WireSegments, is_new, highest_given}
use Rattle.dna_links.specs.WireLinks.{WireLinks}
use Rattle.link_segments.specs.Received.{piece_at}

abbrev pub body_in : Option Piece → Option (List ℕ)
body_in piece = option_map (λ (p : Piece). p.body) piece

-- what the segment so far below the highest given first carried, while it is outstanding
abbrev pub first_body : (below : ℕ) → List Piece → Option (List ℕ)
first_body below outstanding =
    if nat_le (length outstanding) below then None else body_in (slice_get outstanding (length outstanding - 1 - below))

-- for a new segment, what is left of the current message; for one that goes again, what it first carried
abbrev pub segment_due : SegmentValue → WireSegments → Option (List ℕ)
segment_due s f =
    if is_new s f.variables
    then slice_get f.variables.unsent.messages 0
    else first_body (distance s.number (highest_given f.variables)) f.variables.outstanding

abbrev pub due_at_links : SegmentValue → WireLinks → Option (List ℕ)
due_at_links s links = with_link (TheLink s.srcaddr s.dstaddr) links None (λ number link. segment_due s link.segments)

-- with what the next message to be delivered begins: what its first segment carries, if that came
abbrev pub front_due : WireSegments → Option (List ℕ)
front_due f = body_in (piece_at 0 f.variables.pieces)

abbrev pub due_to_user : (own : ℕ) → WireLinks → Option (List ℕ)
due_to_user own links = with_link (HasAddress own) links None (λ number link. front_due link.segments)
