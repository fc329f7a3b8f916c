use Rattle.std.proofs.Common.{◌≡◌, ℕ, ◌+◌, ◌<◌, ◌≤◌, length, min, get_or}
use Rattle.coverage.specs.Counts.{MOST}
use Rattle.coverage.proofs.counts.Counts.add.Given as goal

abbrev pub invariant-loop-place : goal.invariant-loop-place
invariant-loop-place l = record {
  all : length l.self.met ≡ 88;
  added : (i : ℕ) → i < l.place → get_or l.self.met i 0 ≡ min (get_or l.initial.self.met i 0 + get_or l.other.met i 0) MOST;
  left : (i : ℕ) → l.place ≤ i → get_or l.self.met i 0 ≡ get_or l.initial.self.met i 0;
}
