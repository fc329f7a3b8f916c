use Rattle.std.proofs.Common.{◌≡◌, ◌≤◌, drop}
use Rattle.dna_links.specs.Segmentation.{in_whole_messages}
use Rattle.link_segments.proofs.Arrived.{kept_or}
use Rattle.link_segments.proofs.received.whole_messages.Given as goal

abbrev pub invariant-loop-place : goal.invariant-loop-place
invariant-loop-place l = record {
  kept : l.kept ≤ l.place;
  whole : in_whole_messages l.pieces.items ≡ kept_or l.kept l.place (in_whole_messages (drop l.place l.pieces.items));
}
