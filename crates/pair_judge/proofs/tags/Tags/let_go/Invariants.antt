use Rattle.std.proofs.Common.{◌≡◌, ℕ, ◌≤◌, length}
use Rattle.pair_judge.specs.inner.Runs.{behind, tag_at}
use Rattle.pair_judge.proofs.tags.Tags.let_go.Given as goal

abbrev pub invariant-loop-self : goal.invariant-loop-self
invariant-loop-self l = record {
  tags : (k : ℕ) → l.front ≤ k → tag_at l.self.older.items l.self.newest k ≡ tag_at l.initial.self.older.items l.initial.self.newest k;
  end : behind l.self.older.items ≤ behind l.initial.self.older.items;
}

abbrev pub decreases-loop-self : goal.decreases-loop-self
decreases-loop-self l = length l.self.older.items
