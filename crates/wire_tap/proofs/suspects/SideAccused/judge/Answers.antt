use Rattle.wire_tap.specs.Accusing.{seen}
use Rattle.wire_tap.proofs.KnownLaws.{charged_this, segment_stays, segment_this}
use Rattle.wire_tap.proofs.suspects.SideAccused.judge.Goals as goal

pub returns-in-Ok-Charged-clause-first : goal.returns-in-Ok-Charged-clause-first
returns-in-Ok-Charged-clause-first c line_alone head side before is same count =
    let known = rw c.requires at is.first in
    let says = rw c.in-Ok-Charged.field-0-is at c.in-Ok-Charged.ensures.said line_alone head (seen side before) known in
    charged_this line_alone head side before c.args.unit.now c.args.passed c.args.self.now is same count c.made_suspect.result c.in-Ok-Charged.charge
    c.made_suspect.ensures.passed c.made_suspect.ensures.unless says

pub returns-in-Ok-Charged-clause-segment : goal.returns-in-Ok-Charged-clause-segment
returns-in-Ok-Charged-clause-segment c line_alone head side before is same count =
    segment_stays line_alone head side before c.args.unit.now c.args.passed c.args.self.now is same count c.args.self.now.segment is.segment

pub returns-in-Ok-Doubted-clause-segment : goal.returns-in-Ok-Doubted-clause-segment
returns-in-Ok-Doubted-clause-segment c line_alone head side before is same count =
    let known = rw c.requires at is.first in
    let says = rw c.in-Ok-Doubted.field-0-is at c.in-Ok-Doubted.ensures.said line_alone head (seen side before) known in
    segment_this line_alone head side before c.args.unit.now c.args.passed c.args.self.now is same count c.args.self.now.segment
    c.first_of-self.result
    is.segment c.first_of-self.ensures says.0 says.1

pub returns-in-Ok-Nothing-clause-segment : goal.returns-in-Ok-Nothing-clause-segment
returns-in-Ok-Nothing-clause-segment c line_alone head side before is same count =
    segment_stays line_alone head side before c.args.unit.now c.args.passed c.args.self.now is same count c.args.self.now.segment is.segment
