-- The steps of one link's segments in parts, as the code takes them.
use Rattle.std.specs.Prelude.{ℕ, ◌+◌, ◌-◌, Bool, ◌&&◌, nat_le}
use Rattle.dna_packet.specs.Nsp.{SegmentValue}
use Rattle.dna_links.specs.SegmentBook.{REACH, distance}
use Rattle.dna_links.specs.Segmentation.{in_order}
use Rattle.dna_links.specs.WireSegments.{LinkVariables, WireSegments, segment_taken}
use Rattle.link_segments.specs.Received.{is_missing_at}

-- a segment that comes is at most 2,047 above the highest received without a gap, and missing
abbrev pub is_missing : (above : ℕ) → LinkVariables → Bool
is_missing above k = (nat_le 1 above && nat_le above REACH) && is_missing_at (in_order k.pieces + above - 1) k.pieces

abbrev pub is_held : SegmentValue → LinkVariables → Bool
is_held s k = is_missing (distance k.received s.number) k

-- its piece is held, and its words are not read
abbrev pub with_held : SegmentValue → WireSegments → WireSegments
with_held s f = record f { variables = segment_taken s f.variables }
