use Rattle.player_end.proofs.Change.{ended_made, gone_index}
use Rattle.player_end.proofs.link_ends.LinkEnds.end_at.Goals as goal

pub invariant_of-self : goal.invariant_of-self
invariant_of-self g c =
    gone_index c.self.view_is c.requires.within c.index.ensures c.requires.lives c.self.invariant
    c.forget.ensures.owns c.forget.ensures.fars c.gone.ensures

pub returns : goal.returns
returns g c = ended_made c.self.view_is c.requires.within c.index.ensures c.requires.lives c.gone.ensures
