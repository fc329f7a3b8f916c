use Rattle.std.proofs.Common.{◌≡◌, ◌+◌, ◌-◌, ◌≤◌, [], replicate}
use Rattle.std.specs.Vec.{vec_len, vec_capacity}
use Rattle.part_station.proofs.seen.Seen.nothing.Given as goal

abbrev pub invariant-loop : goal.invariant-loop
invariant-loop l = record {
  items : l.packets.items ≡ replicate l.counter (record { number = 0; body = [] });
  room : vec_len l.packets + (256 - l.counter) ≤ vec_capacity l.packets;
}
