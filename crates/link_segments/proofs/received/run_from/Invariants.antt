use Rattle.std.proofs.Common.{◌≡◌, ◌+◌, drop}
use Rattle.dna_links.specs.Segmentation.{in_order}
use Rattle.link_segments.proofs.received.run_from.Given as goal

abbrev pub invariant-loop-place : goal.invariant-loop-place
invariant-loop-place l = record {
  count : l.run + l.from ≡ l.place;
  order : in_order (drop l.from l.pieces.items) ≡ l.run + in_order (drop l.place l.pieces.items);
}
