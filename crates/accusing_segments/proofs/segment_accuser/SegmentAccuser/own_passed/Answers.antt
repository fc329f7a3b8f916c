use Rattle.accusing_segments.proofs.Known.{own_noted}
use Rattle.accusing_segments.proofs.segment_accuser.SegmentAccuser.own_passed.Goals as goal

pub returns : goal.returns
returns c = λ passed is.
    own_noted passed c.args.unit.now c.args.self.now c.sends.new.self c.sends.result is c.sends.ensures.words c.sends.ensures.rooms
    c.sends.ensures.called c.sends.ensures.again c.sends.ensures.ends c.sends.ensures.firsts
