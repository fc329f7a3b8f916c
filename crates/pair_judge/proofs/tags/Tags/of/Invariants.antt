use Rattle.std.proofs.Common.{◌≡◌, drop}
use Rattle.pair_judge.specs.inner.Runs.{tag_at}
use Rattle.pair_judge.proofs.tags.Tags.of.Given as goal

abbrev pub invariant-loop-place : goal.invariant-loop-place
invariant-loop-place l = tag_at (drop l.place l.self.older.items) l.self.newest l.number ≡ tag_at l.self.older.items l.self.newest l.number
