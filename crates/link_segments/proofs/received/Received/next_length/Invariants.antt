use Rattle.std.proofs.Common.{◌≡◌, drop}
use Rattle.link_segments.specs.Received.{next_length, more_bytes}
use Rattle.link_segments.proofs.received.Received.next_length.Given as goal

abbrev pub invariant-loop-index : goal.invariant-loop-index
invariant-loop-index l = next_length l.self-inside.pieces.items ≡ more_bytes l.bytes (next_length (drop l.index l.self-inside.pieces.items))
