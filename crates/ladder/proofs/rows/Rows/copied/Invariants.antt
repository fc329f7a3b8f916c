use Rattle.std.proofs.Common.{◌≡◌, take}
use Rattle.ladder.proofs.rows.Rows.copied.Given as goal

abbrev pub invariant-loop-index : goal.invariant-loop-index
invariant-loop-index l = l.rows.items ≡ take l.index l.self-inside.rows.items
