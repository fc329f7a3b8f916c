use Rattle.std.proofs.Common.{refl, sym, ◌∙◌}
use Rattle.dna_links.specs.declared.port.LinkTest.TheVariants.{ActedOn}
use Rattle.player_end.proofs.Searching.{with_passed}
use Rattle.player_end.proofs.link_ends.LinkEnds.act.Goals as goal

pub returns : goal.returns
returns g c =
    c.act_at.ensures _ c.in-Some.ensures.link
    ∙ sym (with_passed (ActedOn c.args.own c.args.far) c.args.self.now _ _ _ _ refl (sym c.in-Some.ensures.number) c.in-Some.ensures.link)
