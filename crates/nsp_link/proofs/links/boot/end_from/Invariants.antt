use Rattle.std.proofs.Common.{◌≡◌, ◌≤◌, ◌++◌, map, take, drop}
use Rattle.dna_links.specs.Queues.{booted_link}
use Rattle.dna_links.specs.WireSegments.{wire_segments}
use Rattle.nsp_link.specs.Kinds.{queues_of}
use Rattle.nsp_link.specs.inner.Indexing.{AreDead}
use Rattle.nsp_link.proofs.links.boot.end_from.Given as goal

abbrev pub invariant-loop-number : goal.invariant-loop-number
invariant-loop-number g l = record {
  items : l.links.items ≡
      map (booted_link wire_segments (queues_of g.row.QUEUES)) (take l.number l.fn.links.items) ++ drop l.number l.fn.links.items;
  dead : AreDead l.dead l.links.items;
  upto : l.dead ≤ l.number;
}
