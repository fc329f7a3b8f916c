use Rattle.std.proofs.lemmas.Result.{IfOk-weaker}
use Rattle.why_answer.proofs.end_telling.rows_text.Goals as goal

pub returns : goal.returns
returns c = IfOk-weaker c.format.result _ _ (λ text is. record { rest = _; is = rw c.in_ok-first.ensures at is }) c.format.ensures.ok
