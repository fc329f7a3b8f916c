use Rattle.std.proofs.Common.{sym, ◌∙◌, subst}
use Rattle.std.proofs.lemmas.Result.{IfOk-weaker}
use Rattle.ladder.specs.declared.rows.Keep.TheVariants.{First, Last}
use Rattle.pair_judge.specs.declared.verdict.Verdict.{Verdict}
use Rattle.drawing.specs.Telling.{keep_for}
use Rattle.drawing.specs.inner.Ending.{IsBegun}
use Rattle.drawing.proofs.drawing.ends_begun.Goals as goal

pub returns-in-Accepted : goal.returns-in-Accepted
returns-in-Accepted c = IfOk-weaker c.begun.result _ _ (λ begun begins order ends.
    subst (λ (verdict : Verdict). IsBegun (keep_for First Last verdict) c.args.rows begun order) (sym c.in-Accepted.is ∙ c.verdict.ensures)
    (begins order ends.0)) c.begun.ensures

pub returns : goal.returns
returns c = IfOk-weaker c.begun-in-Refused.result _ _ (λ begun begins order ends.
    subst (λ (verdict : Verdict). IsBegun (keep_for First Last verdict) c.args.rows begun order) (sym c.in-Refused.is ∙ c.verdict.ensures)
    (begins order ends.1)) c.begun-in-Refused.ensures
