use Rattle.dna_play.specs.StoredLinks.{handed}
use Rattle.player_end.proofs.Change.{index_made, kept_if_ok}
use Rattle.player_end.proofs.Keeping.{either_made, keeps_handed}
use Rattle.player_end.proofs.link_ends.LinkEnds.hand_in_at.Goals as goal

pub invariant_of-self : goal.invariant_of-self
invariant_of-self g c =
    index_made c.self.view_is c.requires.within c.index_mut.ensures.value c.requires.lives c.self.invariant c.mark.ensures
    (either_made c.hand_in-made.result c.hand_in-made.ensures.ok c.hand_in-made.ensures.err
    (keeps_handed c.args.message.now c.index_mut.result.now))

pub returns : goal.returns
returns g c =
    kept_if_ok c.self.view_is c.requires.within c.index_mut.ensures.value c.requires.lives c.hand_in-made.result (handed c.args.message.now) _
    (keeps_handed c.args.message.now c.index_mut.result.now) c.hand_in-made.ensures.ok
