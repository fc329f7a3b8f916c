use Rattle.std.proofs.Common.{◌≡◌, Bool, sym, subst}
use Rattle.std.proofs.lemmas.Result.{IfOk-weaker}
use Rattle.part_pair.specs.declared.course.Ahead.TheVariants.{Ended}
use Rattle.part_pair.specs.declared.course.Course.{Course}
use Rattle.part_pair.specs.inner.Tracks.{IsUnderWay, Stands, along_b, both}
use Rattle.part_pair.proofs.UnderWay.{made_by_b, no_order, none_of_a, stops_b}
use Rattle.part_pair.proofs.turn.turn_of_b.Goals as goal

pub returns-in-Ok-Made-clause-turn : goal.returns-in-Ok-Made-clause-turn
returns-in-Ok-Made-clause-turn c = λ text_a text_b come_a come_b made_a made_b before stands looked same under.
    let m = rw c.in-Ok-Made.field-0-is at c.in-Ok-Made.ensures in
    made_by_b text_a come_a text_b come_b c.args.a.now c.args.b.now c.advance.new.other c.advance.new.self made_a made_b under c.args.a_waits before
    stands looked same c.requires.ready_a c.requires.ready_b m

pub returns-in-Ok-Fails-clause-turn : goal.returns-in-Ok-Fails-clause-turn
returns-in-Ok-Fails-clause-turn c = λ text_a text_b come_a come_b made_a made_b before stands looked same under.
    let m = rw c.in-Ok-Fails.field-0-is at c.in-Ok-Fails.ensures in
    rw c.refused.ensures
    (stops_b text_a come_a text_b come_b c.args.a.now c.args.b.now made_a made_b under c.args.a_waits before stands looked same c.requires.ready_a
    c.advance.new.other c.advance.new.self c.in-Ok-Fails.refusal m)

pub returns-in-Ok-Blocked-clause-turn : goal.returns-in-Ok-Blocked-clause-turn
returns-in-Ok-Blocked-clause-turn c = λ text_a text_b come_a come_b made_a made_b before stands looked same under.
    let m = rw c.in-Ok-Blocked.field-0-is at c.in-Ok-Blocked.ensures in
    let waits = subst (λ (w : Bool). Stands w c.args.a.now before) c.if-a_waits.true stands in
    rw c.refused-in-Ok-Blocked.ensures
    (no_order text_a come_a text_b come_b c.args.a.now c.args.b.now made_a made_b under before c.advance.new.self c.advance.new.other waits looked
    same c.requires.ready_a m)

pub returns-in-Ok-Blocked-2-clause-turn : goal.returns-in-Ok-Blocked-2-clause-turn
returns-in-Ok-Blocked-2-clause-turn c = λ text_a text_b come_a come_b made_a made_b before stands looked same under.
    let m = rw c.in-Ok-Blocked.field-0-is at c.in-Ok-Blocked.ensures in
    let ends = subst (λ (w : Bool). Stands w c.args.a.now before) c.if-a_waits.false stands in
    rw c.refused-in-Ok-Blocked-2.ensures
    (none_of_a text_a come_a text_b come_b c.args.a.now c.args.b.now made_a made_b under c.advance.new.other c.advance.new.self ends
    c.requires.ready_a m)

pub returns-in-Ok-Ended-clause-turn : goal.returns-in-Ok-Ended-clause-turn
returns-in-Ok-Ended-clause-turn c =
    let m = rw c.in-Ok-Ended.field-0-is at c.in-Ok-Ended.ensures in
    IfOk-weaker c.last_turn_of_a.result _ _
    (λ turn is text_a text_b come_a come_b made_a made_b before stands looked same under.
    is text_a text_b come_a come_b made_a made_b (subst (λ (b : Course). b.ahead ≡ Ended) (sym m.same) m.ahead)
    (subst (λ (b : Course). IsUnderWay (both text_a c.advance.new.other come_a (along_b text_b b come_b)) made_a made_b) (sym m.same)
    (subst (λ (a : Course). IsUnderWay (both text_a a come_a (along_b text_b c.args.b.now come_b)) made_a made_b) (sym m.same_other) under)))
    c.last_turn_of_a.ensures.turn
