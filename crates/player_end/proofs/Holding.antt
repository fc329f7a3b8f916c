-- A segment that came twice changes nothing.
use Rattle.std.proofs.Common.{◌≡◌, ℕ, ◌+◌, ◌-◌, ◌<◌, false, ap}
use Rattle.dna_packet.specs.Nsp.{SegmentValue}
use Rattle.dna_links.specs.SegmentBook.{distance}
use Rattle.dna_links.specs.Segmentation.{in_order}
use Rattle.dna_play.specs.NextSent.{LinkEnd}
use Rattle.dna_links.specs.WireSegments.{LinkVariables, segment_taken}
use Rattle.link_segments.specs.Received.{is_missing_at}
use Rattle.link_segments.proofs.Holding.{held_there}

pub unheld : (above : ℕ) (s : SegmentValue) (l : LinkEnd) → above ≡ distance l.variables.received s.number → l.variables.received < 4096 →
    is_missing_at (in_order l.variables.pieces + above - 1) l.variables.pieces ≡ false → record l { variables = segment_taken s l.variables } ≡ l
unheld above s l is h there = ap (λ (k : LinkVariables). record l { variables = k }) (held_there above s l.variables is h there)

pub ruleset holding = (held_there)
