use Rattle.wire_tap.specs.inner.Side.{units_state}
use Rattle.wire_tap.proofs.MoveLaws.{pass_one, pass_own}
use Rattle.wire_tap.proofs.TellLaws.{moves_told, tells_last, tells_none}
use Rattle.wire_tap.proofs.side_tap.SideUnits.pass_message.Goals as goal

pub returns-in-NoWay-clause-own : goal.returns-in-NoWay-clause-own
returns-in-NoWay-clause-own c =
    pass_own c.args.unit.now (units_state c.args.self.now) _ c.in_ok-sent.ensures c.saturating_add-self.ensures

pub returns-in-NoWay-clause-other : goal.returns-in-NoWay-clause-other
returns-in-NoWay-clause-other c = tells_none _ c.args.other.now

pub returns-in-TooMany-clause-own : goal.returns-in-TooMany-clause-own
returns-in-TooMany-clause-own c =
    pass_own c.args.unit.now (units_state c.args.self.now) _ c.in_ok-sent.ensures c.saturating_add-self.ensures

pub returns-in-TooMany-clause-other : goal.returns-in-TooMany-clause-other
returns-in-TooMany-clause-other c = tells_none _ c.args.other.now

pub returns-then-is_last-clause-own : goal.returns-then-is_last-clause-own
returns-then-is_last-clause-own c =
    pass_one c.args.unit.now (units_state c.args.self.now) _ c.sent.new.self c.in_ok-sent.ensures c.in_ok-settle.ensures c.saturating_add-self.ensures

pub returns-then-is_last-clause-other : goal.returns-then-is_last-clause-other
returns-then-is_last-clause-other c = tells_last c.args.unit.now c.args.other.now _ c.in_ok-sent_by_other-in-Way.ensures

pub returns-clause-own : goal.returns-clause-own
returns-clause-own c =
    pass_one c.args.unit.now (units_state c.args.self.now) _ c.sent.new.self c.in_ok-sent.ensures c.in_ok-settle.ensures c.saturating_add-self.ensures

pub returns-clause-other : goal.returns-clause-other
returns-clause-other c = moves_told c.args.unit.now c.args.other.now _ c.in_ok-sent_by_other-in-Way.ensures
