use Rattle.accusing_segments.proofs.Known.{other_noted}
use Rattle.accusing_segments.proofs.segment_accuser.SegmentAccuser.other_passed.Goals as goal

pub returns : goal.returns
returns c = λ passed is.
    other_noted passed c.args.unit.now c.args.self.now c.hears.new.self c.hears.result is c.hears.ensures.ends
    c.hears.ensures.words c.hears.ensures.rooms c.hears.ensures.called c.hears.ensures.again c.hears.ensures.firsts
