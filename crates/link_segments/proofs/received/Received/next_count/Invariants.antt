use Rattle.std.proofs.Common.{◌≡◌, drop}
use Rattle.link_segments.specs.Received.{next_count, more_pieces}
use Rattle.link_segments.proofs.received.Received.next_count.Given as goal

abbrev pub invariant-loop-index : goal.invariant-loop-index
invariant-loop-index l = next_count l.self-inside.pieces.items ≡ more_pieces l.index (next_count (drop l.index l.self-inside.pieces.items))
