use Rattle.wire_tap.specs.inner.Side.{aim, side_state}
use Rattle.wire_tap.proofs.PassLaws.{passing_begins, passing_ends, passing_none, passing_on}
use Rattle.wire_tap.proofs.TellLaws.{telling_begins, telling_ends, telling_none, telling_on}
use Rattle.wire_tap.proofs.side_tap.SideTap.pass_bytes.Goals as goal

pub loop-init : goal.loop-init
loop-init c = record { own = passing_begins _ (side_state c.args.self.now); other = telling_begins _ c.args.other.now }

pub returns-in-UsedUp-clause-own : goal.returns-in-UsedUp-clause-own
returns-in-UsedUp-clause-own c =
    passing_none _ _ _ _ _ _ c.loop.invariant.own (rw c.in-UsedUp.is at c.in_ok-behind.ensures.own)

pub returns-in-UsedUp-clause-other : goal.returns-in-UsedUp-clause-other
returns-in-UsedUp-clause-other c = telling_none _ _ _ _ _ c.loop.invariant.other (rw c.in-UsedUp.is at c.in_ok-behind.ensures.other)

pub returns-in-Ends-clause-own : goal.returns-in-Ends-clause-own
returns-in-Ends-clause-own c =
    passing_ends _ _ _ _ _ _ c.loop.invariant.own (aim c.args.at.last c.args.at.side) c.in-Ends.ending
    (rw c.in-Ends.is at c.in_ok-behind.ensures.own)

pub returns-in-Ends-clause-other : goal.returns-in-Ends-clause-other
returns-in-Ends-clause-other c = telling_ends _ _ _ _ _ c.loop.invariant.other (rw c.in-Ends.is at c.in_ok-behind.ensures.other)

pub loop-preserved : goal.loop-preserved
loop-preserved c =
    let one = rw c.in-Rest.is at c.in_ok-behind.ensures.own in
    let told = telling_on _ _ _ _ _ c.loop.invariant.other c.in-Rest.behind.now (rw c.in-Rest.is at c.in_ok-behind.ensures.other) in
    record {
      own = passing_on _ _ _ _ _ _ c.loop.invariant.own c.in-Rest.behind.now one;
      other = rw one.empty told;
    }
