use Rattle.std.proofs.Common.{sym, subst, ◌∙◌}
use Rattle.assuming.specs.inner.Sifted.{AreNoted}
use Rattle.assuming.proofs.Sifting.{noted_added, noted_more}
use Rattle.assuming.proofs.sifted.Sifted.put.Goals as goal

pub invariant_of-self-in_err-push : goal.invariant_of-self-in_err-push
invariant_of-self-in_err-push c =
    let place = c.place_of-side.result in
    subst (AreNoted c.add.new.self) (sym c.in_err-push.ensures.items)
    (noted_added c.self.inside.places c.add.new.self c.self.inside.turns.items c.self.invariant place.0 place.1 place.2 c.in_ok-add.ensures.ok)

pub invariant_of-self-2 : goal.invariant_of-self-2
invariant_of-self-2 c =
    let place = c.place_of-side.result in
    subst (AreNoted c.add.new.self) (sym c.in_ok-push.ensures.items)
    (noted_more c.self.inside.places c.add.new.self c.self.inside.turns.items c.self.invariant place.0 place.1 place.2 c.in_ok-add.ensures.ok
    c.args.turn c.place_of-side.ensures (sym c.if-has.false ∙ c.has.ensures))
