use Rattle.std.proofs.lemmas.Result.{IfOk-weaker}
use Rattle.accusing.proofs.Histories.{after_own, wrong_own}
use Rattle.accusing.proofs.accuser.Accuser.sends.Goals as goal

pub returns-clause-after : goal.returns-clause-after
returns-clause-after c = λ passed is.
    IfOk-weaker c.judges.result _ _ (λ answer. after_own passed c.args.unit.now c.args.self.now c.judges.new.self answer is) c.judges.ensures.ok

pub returns-clause-wrong : goal.returns-clause-wrong
returns-clause-wrong c = λ passed is.
    IfOk-weaker c.judges.result _ _ (λ answer. wrong_own passed c.args.unit.now c.args.self.now c.judges.new.self answer is) c.judges.ensures.ok
