use Rattle.std.proofs.Common.{rules}
use Rattle.player_end.proofs.Change.{kept_by, changes}
use Rattle.player_end.proofs.Keeping.{keeps_called}
use Rattle.player_end.proofs.link_ends.LinkEnds.call_again_at.Goals as goal

pub invariant_of-self : goal.invariant_of-self
invariant_of-self g c = search (rules, changes)

pub returns : goal.returns
returns g c = kept_by c.self.view_is c.requires.within c.index_mut.ensures.value c.requires.lives keeps_called c.call_again.ensures
