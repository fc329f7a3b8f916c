use Rattle.std.proofs.Common.{◌≡◌, ℕ, List, ◌++◌, drop, map, take}
use Rattle.wire_base.specs.declared.side.Side.{Side}
use Rattle.ladder.specs.declared.row.Row.{Row}
use Rattle.ladder.specs.Row.{passed}
use Rattle.ladder.proofs.rows.Rows.pass.Given as goal

abbrev so_far : Side → ℕ → ℕ → List Row → List Row
so_far receiver hint index rows = map (passed receiver hint) (take index rows) ++ drop index rows

abbrev pub invariant-loop-index : goal.invariant-loop-index
invariant-loop-index l = record {
  rows : l.self-inside.rows.items ≡ so_far l.receiver l.hint l.index l.initial.self-inside.rows.items;
  keep : l.self-inside.keep ≡ l.initial.self-inside.keep;
  phase : l.self-inside.phase ≡ l.initial.self-inside.phase;
  drawn : l.self-inside.room ≡ l.initial.self-inside.room;
  room : l.self-inside.rows.capacity ≡ l.initial.self-inside.rows.capacity;
}
