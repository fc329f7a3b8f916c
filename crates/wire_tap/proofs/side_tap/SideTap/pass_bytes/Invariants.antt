use Rattle.std.proofs.Common.{◌++◌}
use Rattle.wire_tap.specs.inner.Side.{TellsOn, side_state}
use Rattle.wire_tap.proofs.PassLaws.{IsPassing}
use Rattle.wire_tap.proofs.side_tap.SideTap.pass_bytes.Given as goal

abbrev pub invariant-loop : goal.invariant-loop
invariant-loop l = record {
  own : IsPassing (l.fn.self.framer.held ++ l.fn.piece) (l.self.framer.held ++ l.rest) l.counter (side_state l.fn.self) (side_state l.self);
  other : TellsOn (l.fn.self.framer.held ++ l.fn.piece) (l.self.framer.held ++ l.rest) l.fn.other l.other;
}
