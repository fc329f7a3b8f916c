use Rattle.std.proofs.Common.{Ok, Err}
use Rattle.pair_judge.proofs.Clauses.{WholeLaws}
use Rattle.pair_judge.proofs.EndClauses.{judged_alone, not_failed}
use Rattle.pair_judge.proofs.judging_end.stopping.decide_end.Goals as goal

pub returns-in-Ok-clause-judged : goal.returns-in-Ok-clause-judged
returns-in-Ok-clause-judged g c =
    let w = c.whole_text.ensures in
    let laws : WholeLaws = record { ended = w.ended; goes_on = w.goes_on; departs_nowhere = w.departs_nowhere; head_stands = w.head_stands } in
    judged_alone g.T.Top.top.end laws _ (Ok c.in-Ok.stop.0.verdict) c.in-Ok.ensures.stopped.answer

pub returns-in-Err-clause-judged : goal.returns-in-Err-clause-judged
returns-in-Err-clause-judged g c =
    let w = c.whole_text.ensures in
    let laws : WholeLaws = record { ended = w.ended; goes_on = w.goes_on; departs_nowhere = w.departs_nowhere; head_stands = w.head_stands } in
    judged_alone g.T.Top.top.end laws _ (Err c.in-Err.fault) c.in-Err.ensures.fault

pub returns-in-Err-clause-first : goal.returns-in-Err-clause-first
returns-in-Err-clause-first g c = not_failed g.T.Top.top.end _ (Err c.in-Err.fault) c.in-Err.ensures.fault
