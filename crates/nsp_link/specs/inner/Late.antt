-- The words of a new segment one after the other, with queues, as the code takes them.
use Rattle.std.specs.Prelude.{ℕ, Option, Some, None}
use Rattle.dna_links.specs.WireSegments.{LastSent, LateSent, gap_at}

-- the last one sent after a word, and how far below it lies what the word named
abbrev pub after_late : (received number : ℕ) → LastSent → Option LastSent → Option LateSent
after_late received number before None = None
after_late received number before (Some sent) = Some (record { sent = sent; gap = gap_at received number before })
