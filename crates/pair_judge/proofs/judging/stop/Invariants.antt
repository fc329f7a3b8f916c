use Rattle.std.proofs.Common.{◌≡◌, []}
use Rattle.wire_base.specs.Tally.{tally_faults, tally_lent}
use Rattle.capture.specs.Lines.{to_come}
use Rattle.pair_judge.specs.inner.Course.{along}
use Rattle.pair_judge.proofs.Starts.{HasTaken}
use Rattle.pair_judge.proofs.judging.stop.Given as goal

abbrev pub invariant-loop : goal.invariant-loop
invariant-loop g l =
    HasTaken g.T.Top.top (g.O.Observer.told l.way.observer)
    (along (g.R.Read.remaining (tally_lent l.fn.a)) l.course_a (to_come l.course_a.capture.unread (g.R.Read.remaining
    (tally_lent l.a))) [])
    (along (g.S.Read.remaining (tally_lent l.fn.b)) l.course_b (to_come l.course_b.capture.unread (g.S.Read.remaining (tally_lent l.b))) []) l.counter
    × (tally_faults l.a ≡ tally_faults l.fn.a)
    × (tally_faults l.b ≡ tally_faults l.fn.b)
