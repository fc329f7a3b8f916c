use Rattle.dna_play.specs.StoredLinks.{duty_sent}
use Rattle.player_end.specs.inner.Owing.{duty_view}
use Rattle.player_end.proofs.Change.{index_made, kept_if_ok}
use Rattle.player_end.proofs.Keeping.{either_made, keeps_sent}
use Rattle.player_end.proofs.link_ends.LinkEnds.sent_at.Goals as goal

pub invariant_of-self : goal.invariant_of-self
invariant_of-self g c =
    index_made c.self.view_is c.requires.within c.index_mut.ensures.value c.requires.lives c.self.invariant c.mark.ensures
    (either_made c.sent-made.result c.sent-made.ensures.ok c.sent-made.ensures.err
    (keeps_sent (duty_view c.args.duty) c.index_mut.result.now))

pub returns : goal.returns
returns g c =
    kept_if_ok c.self.view_is c.requires.within c.index_mut.ensures.value c.requires.lives c.sent-made.result (duty_sent (duty_view c.args.duty)) _
    (keeps_sent (duty_view c.args.duty) c.index_mut.result.now) c.sent-made.ensures.ok
