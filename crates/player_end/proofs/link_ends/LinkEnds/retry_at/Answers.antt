use Rattle.player_end.proofs.Change.{index_made, retry_made, no_retry}
use Rattle.player_end.proofs.Keeping.{retry_keeps}
use Rattle.player_end.proofs.link_ends.LinkEnds.retry_at.Goals as goal

pub invariant_of-self : goal.invariant_of-self
invariant_of-self g c =
    index_made c.self.view_is c.requires.within c.index_mut.ensures.value c.requires.lives c.self.invariant c.mark.ensures
    (retry_keeps c.retry-made.result c.retry-made.ensures.yes c.retry-made.ensures.same)

pub returns-clause-yes : goal.returns-clause-yes
returns-clause-yes g c =
    retry_made c.self.view_is c.requires.within c.index_mut.ensures.value c.requires.lives c.retry-made.result
    c.retry-made.new.self c.retry-made.ensures.yes

pub returns-clause-no : goal.returns-clause-no
returns-clause-no g c =
    no_retry c.self.view_is c.requires.within c.index_mut.ensures.value c.requires.lives c.retry-made.result
    c.retry-made.ensures.no
