use Rattle.wire_tap.specs.inner.Side.{side_state, units_state}
use Rattle.wire_tap.proofs.PassLaws.{ends_found}
use Rattle.wire_tap.proofs.TellLaws.{tells_used}
use Rattle.wire_tap.proofs.side_tap.SideTap.pass_next.Goals as goal

pub returns-in-Some-clause-own : goal.returns-in-Some-clause-own
returns-in-Some-clause-own c =
    ends_found _ _ _ c.in-Unit.kind c.in-Unit.strays c.in-Unit.unit.now (side_state c.args.self.now) _ (units_state c.skip.new.self) c.in-Some.ending
    c.in_ok-ending-in-Unit.field-0 c.in-Unit.ensures.found.0 c.in-Unit.ensures.found.1 c.skip.ensures.placing c.skip.ensures.count
    c.in_ok-ending-in-Unit.ensures.own c.in_ok-ending-in-Unit.ensures.ends c.in-Some.is

pub returns-in-Some-2-clause-own : goal.returns-in-Some-2-clause-own
returns-in-Some-2-clause-own c =
    let found = c.in-Completed.ensures.found in
    ends_found _ _ _ c.in-Completed.kind c.in-Completed.strays c.completed-unit.result.now (side_state c.args.self.now) _
    (units_state c.skip-in-Completed.new.self) c.in-Some-2.ending c.in_ok-ending-in-Completed.field-0 (rw (← c.completed-unit.ensures) at found.0)
    found.1
    c.skip-in-Completed.ensures.placing c.skip-in-Completed.ensures.count c.in_ok-ending-in-Completed.ensures.own
    c.in_ok-ending-in-Completed.ensures.ends c.in-Some-2.is

pub returns-in-More-clause-other : goal.returns-in-More-clause-other
returns-in-More-clause-other c = tells_used _ _ c.in-More.strays c.args.other.now c.in-More.ensures.found
