use Rattle.wire_tap.specs.inner.Side.{units_state}
use Rattle.wire_tap.proofs.MoveLaws.{moves_nothing, pass_nothing}
use Rattle.wire_tap.proofs.side_tap.SideUnits.pass.Goals as goal

pub returns-in-Maintenance-clause-own : goal.returns-in-Maintenance-clause-own
returns-in-Maintenance-clause-own c = rw c.in-Maintenance.is (pass_nothing (units_state c.args.self.now))

pub returns-in-Maintenance-clause-other : goal.returns-in-Maintenance-clause-other
returns-in-Maintenance-clause-other c = rw c.in-Maintenance.is (moves_nothing c.args.other.now)
