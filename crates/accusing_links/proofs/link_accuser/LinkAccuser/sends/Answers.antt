use Rattle.accusing_links.proofs.Prelude.{◌∙◌, heard_by, heard}
use Rattle.accusing_links.proofs.{Final.wrong_own, Passing.own_noted, Passing.unit_same}
use Rattle.accusing_links.proofs.link_accuser.LinkAccuser.sends.Goals as goal

pub returns-clause-known : goal.returns-clause-known
returns-clause-known c = λ passed is.
    c.finds.ensures ∙ unit_same c.args.self.now.head (heard_by c.args.self.now) (heard passed) is.segments is.connects c.args.unit.now

pub returns-clause-after : goal.returns-clause-after
returns-clause-after c = λ passed is. own_noted passed c.args.unit.now c.args.self.now is

pub returns-clause-wrong : goal.returns-clause-wrong
returns-clause-wrong c = λ passed is.
    wrong_own c.args.self.now.head passed c.args.unit.now c.finds.result (
    c.finds.ensures ∙ unit_same c.args.self.now.head (heard_by c.args.self.now) (heard passed) is.segments is.connects c.args.unit.now)
