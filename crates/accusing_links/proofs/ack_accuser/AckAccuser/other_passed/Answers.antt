use Rattle.accusing_links.proofs.Telling.{other_told}
use Rattle.accusing_links.proofs.ack_accuser.AckAccuser.other_passed.Goals as goal

pub returns : goal.returns
returns c = λ passed is.
    other_told passed c.args.unit.now c.args.self.now c.hears.new.self c.hears.result is c.hears.ensures.said c.hears.ensures.alone
    c.hears.ensures.segments c.hears.ensures.called c.hears.ensures.again
