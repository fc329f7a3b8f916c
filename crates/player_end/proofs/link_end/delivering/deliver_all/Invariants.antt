use Rattle.std.proofs.Common.{◌≡◌, ◌+◌, ◌≤◌, drop, length}
use Rattle.dna_links.specs.Segmentation.{in_whole_messages}
use Rattle.player_end.specs.inner.Delivering.{lines_of}
use Rattle.player_end.proofs.link_end.delivering.deliver_all.Given as goal

abbrev pub invariant-loop : goal.invariant-loop
invariant-loop l = record {
  lines : lines_of l.own l.initial.text.items l.initial.pieces ≡ lines_of l.own l.text.items l.pieces;
  left : drop (in_whole_messages l.initial.pieces) l.initial.pieces ≡ drop (in_whole_messages l.pieces) l.pieces;
  few : length l.pieces + l.counter ≤ l.most;
}
