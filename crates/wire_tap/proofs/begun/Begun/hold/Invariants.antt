use Rattle.std.proofs.Common.{◌≡◌, ◌⊎◌, ℕ, ◌+◌, ◌-◌, ◌<◌, ◌≤◌, ◌^◌, length}
use Rattle.std.specs.Prelude.{slice_index_or}
use Rattle.wire_tap.specs.inner.Accused.{IsOnLine, KeepsLines}
use Rattle.wire_tap.proofs.begun.Begun.hold.Given as goal

abbrev pub invariant-loop-place : goal.invariant-loop-place
invariant-loop-place l = record {
  eight : length l.self.lines ≡ 8;
  kept : (lines : ℕ → ℕ) (at : ℕ) → KeepsLines lines at l.fn.held l.fn.self → IsOnLine lines at l.fn.held l.fn.piece l.fn.line
      → l.fn.held + l.fn.piece < 2 ^ 64 → l.fn.now ≤ l.fn.held + l.fn.piece → (l.fn.held < 8) ⊎ (l.fn.now ≡ l.fn.held + l.fn.piece)
      → (i : ℕ) → i < l.place → i < l.fn.now → slice_index_or l.self.lines i 0 ≡ lines (at + (l.fn.held + l.fn.piece - l.fn.now) + i);
}
