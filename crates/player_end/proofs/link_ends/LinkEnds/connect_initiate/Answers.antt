use Rattle.std.proofs.Common.{refl, sym, ◌∙◌}
use Rattle.dna_links.specs.declared.port.LinkTest.TheVariants.{LiveTo}
use Rattle.player_end.proofs.Searching.{with_passed}
use Rattle.player_end.proofs.link_ends.LinkEnds.connect_initiate.Goals as goal

pub returns : goal.returns
returns g c =
    c.call_again_at.ensures _ c.in-Some.ensures.link
    ∙ sym (with_passed (LiveTo c.args.far) c.args.self.now _ _ _ _ refl (sym c.in-Some.ensures.number) c.in-Some.ensures.link)
