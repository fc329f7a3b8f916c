-- What a contract sees of one end of a link.
use Rattle.std.specs.Prelude.{Option, Some, None}
use Rattle.dna_links.specs.WireSegments.{WireSegments, empty}

-- the segments that lie in a block; none where there is no block
abbrev pub segments_in : {B : Type 0} → (B → WireSegments) → Option B → WireSegments
segments_in value None = empty
segments_in value (Some b) = value b
