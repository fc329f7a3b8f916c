use Rattle.accusing_links.proofs.Telling.{own_told}
use Rattle.accusing_links.proofs.ack_accuser.AckAccuser.own_passed.Goals as goal

pub returns : goal.returns
returns c = λ passed is.
    own_told passed c.args.unit.now c.args.self.now c.sends.new.self c.sends.result is c.sends.ensures.segments c.sends.ensures.called
    c.sends.ensures.again c.sends.ensures.said c.sends.ensures.alone
