use Rattle.std.proofs.Common.{subst}
use Rattle.why.specs.declared.accusation.Accusation.{Accusation}
use Rattle.why_answer.specs.PrintedWhy.{IsAccused}
use Rattle.why_answer.proofs.telling.accusation_of.Goals as goal

pub returns : goal.returns
returns c = subst (λ (by_table : Accusation). IsAccused c.args.refused.reason by_table c.accusation_knowing.result) c.of.ensures
    c.accusation_knowing.ensures
