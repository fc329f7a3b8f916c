use Rattle.std.proofs.Common.{refl, sym, ap, ◌∙◌}
use Rattle.dna_links.specs.declared.port.LinkTest.TheVariants.{CallingAt, TheLink}
use Rattle.player_end.proofs.Searching.{with_passed, with_none}
use Rattle.player_end.proofs.link_ends.LinkEnds.end.Goals as goal

pub returns-in-Some-clause-yes : goal.returns-in-Some-clause-yes
returns-in-Some-clause-yes g c = λ e otherwise more.
    with_passed (TheLink c.args.own c.args.far) c.args.self.now _ _ _ _ refl (sym c.in-Some.ensures.number) c.in-Some.ensures.link
    ∙ ap more (sym c.end_at.ensures)

pub returns-clause-yes : goal.returns-clause-yes
returns-clause-yes g c = λ e otherwise more.
    let found = c.in-Some-found.ensures in
    with_none (TheLink c.args.own c.args.far) c.args.self.now _ _ refl (sym c.in_default.ensures.number)
    ∙ with_passed (CallingAt c.args.own) c.args.self.now _ _ _ _ refl (sym found.number) found.link
    ∙ ap more (sym c.end_at-2.ensures)
