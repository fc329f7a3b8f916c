use Rattle.std.proofs.Common.{sym, subst}
use Rattle.part_pair.specs.declared.course.Course.{Course}
use Rattle.part_pair.specs.inner.Tracks.{HaveEnded, along_b, both}
use Rattle.part_pair.proofs.UnderWay.{made_by_a, none_of_b, stops_a}
use Rattle.part_pair.proofs.turn.last_turn_of_a.Goals as goal

pub returns-in-Ok-Made-clause-turn : goal.returns-in-Ok-Made-clause-turn
returns-in-Ok-Made-clause-turn c = λ text_a text_b come_a come_b made_a made_b ends under.
    let m = rw c.in-Ok-Made.field-0-is at c.in-Ok-Made.ensures in
    made_by_a text_a come_a text_b come_b c.args.a.now c.args.b.now c.advance.new.self c.advance.new.other made_a made_b under c.requires.ready m

pub returns-in-Ok-Fails-clause-turn : goal.returns-in-Ok-Fails-clause-turn
returns-in-Ok-Fails-clause-turn c = λ text_a text_b come_a come_b made_a made_b ends under.
    let m = rw c.in-Ok-Fails.field-0-is at c.in-Ok-Fails.ensures in
    rw c.refused.ensures
    (stops_a text_a come_a text_b come_b c.args.a.now c.args.b.now made_a made_b under c.advance.new.self c.advance.new.other c.in-Ok-Fails.refusal m)

pub returns-in-Ok-Blocked-clause-turn : goal.returns-in-Ok-Blocked-clause-turn
returns-in-Ok-Blocked-clause-turn c = λ text_a text_b come_a come_b made_a made_b ends under.
    let m = rw c.in-Ok-Blocked.field-0-is at c.in-Ok-Blocked.ensures in
    rw c.refused-in-Ok-Blocked.ensures
    (none_of_b text_a come_a text_b come_b c.args.a.now c.args.b.now made_a made_b under c.advance.new.self c.advance.new.other ends m)

pub returns-in-Ok-Ended-clause-turn : goal.returns-in-Ok-Ended-clause-turn
returns-in-Ok-Ended-clause-turn c = λ text_a text_b come_a come_b made_a made_b ends under.
    let m = rw c.in-Ok-Ended.field-0-is at c.in-Ok-Ended.ensures in
    subst (λ (a : Course). HaveEnded (both text_a a come_a (along_b text_b c.advance.new.other come_b))) (sym m.same)
    (subst (λ (b : Course). HaveEnded (both text_a c.args.a.now come_a (along_b text_b b come_b))) (sym m.same_other)
    (record { made_a = made_a; made_b = made_b; under_way = under; a_ends = m.ahead; b_ends = ends }))
