use Rattle.std.proofs.lemmas.Result.{IfOk-weaker}
use Rattle.why.proofs.refused_record.record_objects.Goals as goal

pub returns : goal.returns
returns c = IfOk-weaker c.format.result _ _ (λ text is. record { rest = _; is = is }) c.format.ensures.ok
