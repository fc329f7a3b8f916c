use Rattle.std.proofs.Common.{true, false}
use Rattle.pair_judge.proofs.AcksAlone.{wrong_by}
use Rattle.pair_judge.proofs.layers.accusing.wrong_acks.Goals as goal

pub returns-then-may_name : goal.returns-then-may_name
returns-then-may_name c =
    wrong_by c.args.words.now c.args.links.now c.args.own c.args.far c.given.result c.in-Some.given true c.given.ensures.given c.in-Some.is
    c.if-may_name.ensures

pub returns-else-may_name : goal.returns-else-may_name
returns-else-may_name c =
    wrong_by c.args.words.now c.args.links.now c.args.own c.args.far c.given.result c.in-Some.given false c.given.ensures.given c.in-Some.is
    c.if-may_name.ensures
