use Rattle.std.proofs.Common.{◌≡◌, ℕ, ◌+◌, ◌≤◌, Bool, List, ◌++◌, length}
use Rattle.wire_tap.specs.Units.{UnitPassed}
use Rattle.wire_tap.specs.inner.Accused.{IsOnLine, IsTold, KeepsLines}
use Rattle.wire_tap.proofs.DirectionLaws.{IsUnderWay}
use Rattle.wire_tap.proofs.direction.Direction.pass_bytes.Given as goal

abbrev pub invariant-loop : goal.invariant-loop
invariant-loop l = record {
  way : (line_alone : Bool) (a b : ℕ) (passed : List UnitPassed) (lines : ℕ → ℕ) (place : ℕ) → IsTold line_alone a b passed l.fn.told
      → KeepsLines lines place (length l.fn.self.framer.held) l.fn.self.begun
      → IsOnLine lines place (length l.fn.self.framer.held) (length l.fn.piece) l.fn.line
      → IsUnderWay line_alone a b l.fn.self.side passed lines place l.fn.line (l.fn.self.framer.held ++ l.fn.piece) l.self.framer.held l.rest
      l.self.begun l.told;
  few : length (l.self.framer.held ++ l.rest) + l.counter ≤ length (l.fn.self.framer.held ++ l.fn.piece);
  side_is : l.self.side ≡ l.fn.self.side;
}
