use Rattle.std.proofs.Common.{◌≡◌}
use Rattle.wire_base.specs.Tally.{tally_faults, tally_lent}
use Rattle.capture.specs.Lines.{to_come}
use Rattle.pair_judge.specs.EndShown.{told_alone}
use Rattle.pair_judge.proofs.LoneWalk.{HasMade}
use Rattle.pair_judge.proofs.judging_end.stopping.stop_end.Given as goal

abbrev pub invariant-loop-number : goal.invariant-loop-number
invariant-loop-number g l =
    (h : HasMade g.T.Top.top (g.R.Read.remaining (tally_lent l.fn.a)) (to_come l.capture.unread (g.R.Read.remaining (tally_lent l.a))) l.capture l.end
    l.number) × (tally_faults l.a ≡ tally_faults l.fn.a) × g.O.Observer.told l.observer (told_alone h.records)
