use Rattle.std.proofs.Common.{◌≡◌}
use Rattle.wire_base.specs.Tally.{tally_faults, tally_lent}
use Rattle.capture.specs.Lines.{to_come}
use Rattle.part_pair.specs.inner.Tracks.{along_b, both}
use Rattle.part_pair.proofs.UnderWay.{HasTaken}
use Rattle.part_pair.proofs.judging_parts.judge_parts.Given as goal

abbrev pub invariant-loop : goal.invariant-loop
invariant-loop g l =
    HasTaken (both (g.R.Read.remaining (tally_lent l.fn.a)) l.course_a (to_come l.course_a.capture.unread (g.R.Read.remaining (tally_lent l.a)))
    (along_b (g.S.Read.remaining (tally_lent l.fn.b)) l.course_b (to_come l.course_b.capture.unread (g.S.Read.remaining (tally_lent l.b))))) l.counter
    × (tally_faults l.a ≡ tally_faults l.fn.a)
    × (tally_faults l.b ≡ tally_faults l.fn.b)
