use Rattle.std.proofs.Common.{◌≡◌}
use Rattle.wire_base.specs.Tally.{tally_faults, tally_lent}
use Rattle.capture.specs.Lines.{to_come}
use Rattle.part_judge.proofs.PartWalk.{HasMade}
use Rattle.part_judge.proofs.judging_part.judge_part.Given as goal

abbrev pub invariant-loop-number : goal.invariant-loop-number
invariant-loop-number g l =
    HasMade (g.R.Read.remaining (tally_lent l.fn.a)) (to_come l.capture.unread (g.R.Read.remaining (tally_lent l.a))) l.capture l.end l.number
    × (tally_faults l.a ≡ tally_faults l.fn.a)
