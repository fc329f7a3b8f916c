use Rattle.player_end.proofs.Duties.{chosen_among}
use Rattle.player_end.proofs.link_ends.LinkEnds.choice.Goals as goal

pub returns-in-None-clause-live : goal.returns-in-None-clause-live
returns-in-None-clause-live g c =
    let l = c.self.inside in
    rw (← c.self.view_is) (chosen_among l.confirms.items l.links.items c.self.invariant.lives)
