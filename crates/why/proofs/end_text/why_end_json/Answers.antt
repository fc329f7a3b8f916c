use Rattle.std.proofs.lemmas.Result.{IfOk-weaker}
use Rattle.why.proofs.Beginnings.{begins_more}
use Rattle.why.proofs.end_text.why_end_json.Goals as goal

pub returns : goal.returns
returns c = IfOk-weaker c.format.result _ _
    (λ text is. begins_more _ _ _ _ (rw c.record_of.ensures at c.in_ok-record.ensures) is) c.format.ensures.ok
