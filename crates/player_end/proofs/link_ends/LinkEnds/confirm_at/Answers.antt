use Rattle.std.proofs.Common.{refl}
use Rattle.dna_play.specs.StoredLinks.{confirmed}
use Rattle.player_end.proofs.Change.{index_far, live_made}
use Rattle.player_end.proofs.Indexed.{more_indexed}
use Rattle.player_end.proofs.link_ends.LinkEnds.confirm_at.Goals as goal

pub invariant_of-self : goal.invariant_of-self
invariant_of-self g c = more_indexed refl refl (λ q k e. e) c.insert.ensures.others c.self.invariant

pub invariant_of-self-2 : goal.invariant_of-self-2
invariant_of-self-2 g c =
    index_far c.self.view_is c.requires.within c.index_mut.ensures.value c.requires.lives c.self.invariant c.mark.ensures _ c.confirm.ensures refl
    refl refl c.in_ok-insert.ensures.this c.insert.ensures.others

pub returns : goal.returns
returns g c =
    live_made c.self.view_is c.requires.within c.index_mut.ensures.value c.requires.lives (confirmed c.args.far) c.confirm.ensures refl
