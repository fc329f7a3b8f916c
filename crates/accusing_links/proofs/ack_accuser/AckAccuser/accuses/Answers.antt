use Rattle.accusing_links.proofs.Prelude.{◌∙◌}
use Rattle.accusing_links.proofs.{Backward.back_own, Telling.back_known}
use Rattle.accusing_links.proofs.ack_accuser.AckAccuser.accuses.Goals as goal

pub returns-clause-known : goal.returns-clause-known
returns-clause-known c = λ passed is. c.finds.ensures ∙ back_known c.args.self.now passed is c.args.unit.now

pub returns-clause-wrong : goal.returns-clause-wrong
returns-clause-wrong c = λ passed is so head.
    back_own passed c.args.unit.now c.finds.result (c.finds.ensures ∙ back_known c.args.self.now passed is c.args.unit.now) so head
