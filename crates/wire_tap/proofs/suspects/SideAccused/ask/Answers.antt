use Rattle.wire_tap.proofs.KnownLaws.{first_same, segment_stays}
use Rattle.wire_tap.proofs.suspects.SideAccused.ask.Goals as goal

pub returns-in-Some-clause-first : goal.returns-in-Some-clause-first
returns-in-Some-clause-first c line_alone head side before is same count =
    first_same line_alone head side before c.args.unit.now c.args.passed c.args.self.now is same count c.args.self.now.first c.in-Some.field-0
    c.args.self.now.accusers c.args.self.now.accusers c.in-Some.is is.first

pub returns-in-Some-clause-segment : goal.returns-in-Some-clause-segment
returns-in-Some-clause-segment c line_alone head side before is same count =
    segment_stays line_alone head side before c.args.unit.now c.args.passed c.args.self.now is same count c.args.self.now.segment is.segment
