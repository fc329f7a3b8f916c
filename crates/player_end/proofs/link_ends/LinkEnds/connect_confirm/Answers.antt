use Rattle.std.proofs.Common.{refl, sym, ◌∙◌}
use Rattle.dna_links.specs.declared.port.LinkTest.TheVariants.{CallingAt, TheLink}
use Rattle.player_end.proofs.Change.{map_ok}
use Rattle.player_end.proofs.Searching.{with_passed, with_none}
use Rattle.player_end.proofs.link_ends.LinkEnds.connect_confirm.Goals as goal

pub returns-in-Some : goal.returns-in-Some
returns-in-Some g c =
    map_ok c.confirm_at.result (λ e. e ∙ sym (with_passed (CallingAt c.args.own) c.args.self.now _ _ _ _ refl
    (sym c.in-Some.ensures.number) c.in-Some.ensures.link)) (c.confirm_at.ensures _ c.in-Some.ensures.link)

pub returns : goal.returns
returns g c =
    let found = c.in-Some-found.ensures in
    c.confirm_again_at.ensures _ found.link
    ∙ sym (with_none (CallingAt c.args.own) c.args.self.now _ _ refl (sym c.in_default.ensures.number)
    ∙ with_passed (TheLink c.args.own c.args.far) c.args.self.now _ _ _ _ refl (sym found.number) found.link)
