use Rattle.std.proofs.lemmas.Result.{IfOk-weaker}
use Rattle.why_answer.proofs.telling.rows_text.Goals as goal

pub returns : goal.returns
returns c = IfOk-weaker c.format.result _ _
    (λ text is. record { rest = _; is = rw (c.in_ok-first.ensures, c.verdict.ensures) at is }) c.format.ensures.ok
