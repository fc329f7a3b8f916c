use Rattle.std.proofs.Common.{arith}
use Rattle.wire_tap.proofs.tapping.pass_pieces.Goals as goal

pub returns-in-Ok-Some-clause-stops : goal.returns-in-Ok-Some-clause-stops
returns-in-Ok-Some-clause-stops g c format text old h =
    rw c.in-Ok-Some.field-0-is at c.in-Ok-Some.ensures.turns format text old (c.loop.invariant.line format text old h)

pub returns-in-Err-clause-stops : goal.returns-in-Err-clause-stops
returns-in-Err-clause-stops g c format text old h = c.in-Err.ensures.turns format text old (c.loop.invariant.line format text old h)

pub unreachable-requires : goal.unreachable-requires
unreachable-requires g c = let few = c.loop.invariant.few in let more = c.loop-test.false in omega arith
