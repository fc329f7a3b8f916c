use Rattle.std.proofs.Common.{◌≡◌, ◌+◌, ◌-◌, ◌≤◌, ◌++◌, None, replicate}
use Rattle.std.specs.VecDeque.{deque_len, deque_capacity}
use Rattle.link_segments.proofs.received.append.Given as goal

abbrev pub invariant-loop : goal.invariant-loop
invariant-loop l = record {
  items : l.pieces.items ≡ l.initial.pieces.items ++ replicate l.counter None;
  room : deque_len l.pieces + (l.missing - l.counter) + 1 ≤ deque_capacity l.pieces;
}
