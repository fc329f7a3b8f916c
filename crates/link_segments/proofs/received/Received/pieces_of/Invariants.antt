use Rattle.std.proofs.Common.{◌≡◌, drop}
use Rattle.link_segments.specs.Received.{delivered_pieces, more_pieces}
use Rattle.link_segments.proofs.received.Received.pieces_of.Given as goal

abbrev pub invariant-loop-index : goal.invariant-loop-index
invariant-loop-index l =
    delivered_pieces l.message l.self-inside.pieces.items ≡ more_pieces l.index (delivered_pieces l.rest (drop l.index l.self-inside.pieces.items))
