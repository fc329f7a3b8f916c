use Rattle.std.proofs.Common.{refl}
use Rattle.dna_play.specs.StoredLinks.{answered}
use Rattle.player_end.specs.inner.Owing.{duty_view}
use Rattle.player_end.proofs.Change.{index_own, live_made}
use Rattle.player_end.proofs.Indexed.{more_indexed}
use Rattle.player_end.proofs.link_ends.LinkEnds.answer_at.Goals as goal

pub invariant_of-self : goal.invariant_of-self
invariant_of-self g c = more_indexed refl refl c.insert.ensures.others (λ q k e. e) c.self.invariant

pub invariant_of-self-2 : goal.invariant_of-self-2
invariant_of-self-2 g c =
    index_own c.self.view_is c.requires.within c.index_mut.ensures.value c.requires.lives c.self.invariant c.mark.ensures _ c.answer.ensures
    c.requires.phase refl refl c.in_ok-insert.ensures.this c.insert.ensures.others

pub returns : goal.returns
returns g c =
    live_made c.self.view_is c.requires.within c.index_mut.ensures.value c.requires.lives
    (answered c.args.phase (duty_view c.args.duty) c.args.own) c.answer.ensures c.requires.phase
