use Rattle.std.proofs.lemmas.Result.{on_ok_weaker}
use Rattle.why_answer.proofs.Rungs.{tells_next}
use Rattle.why_answer.proofs.last_rows.LastRowsObserver.made.Goals as goal

pub returns : goal.returns
returns c = on_ok_weaker c.made.result (λ made. rw (← c.next.view_is) (tells_next _ _ _ made)) c.made.ensures.ok
