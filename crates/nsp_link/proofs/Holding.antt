-- A segment that came twice changes nothing.
use Rattle.std.proofs.Common.{◌≡◌, ℕ, ◌+◌, ◌-◌, ◌<◌, false, ap}
use Rattle.dna_packet.specs.Nsp.{SegmentValue}
use Rattle.dna_links.specs.SegmentBook.{distance}
use Rattle.dna_links.specs.Segmentation.{in_order}
use Rattle.dna_links.specs.WireSegments.{LinkVariables, WireSegments}
use Rattle.link_segments.specs.Received.{is_missing_at}
use Rattle.link_segments.proofs.Holding.{held_there as kept_there}
use Rattle.nsp_link.specs.Segments.{with_held}

pub held_there : (above : ℕ) (s : SegmentValue) (f : WireSegments) → above ≡ distance f.variables.received s.number → f.variables.received < 4096 →
    is_missing_at (in_order f.variables.pieces + above - 1) f.variables.pieces ≡ false → with_held s f ≡ f
held_there above s f is h there = ap (λ (k : LinkVariables). record f { variables = k }) (kept_there above s f.variables is h there)

pub ruleset holding = (held_there)
