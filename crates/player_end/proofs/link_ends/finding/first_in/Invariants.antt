use Rattle.std.proofs.Common.{◌-◌, length}
use Rattle.player_end.specs.inner.Links.{passes_there}
use Rattle.player_end.proofs.Finding.{NoneBelow}
use Rattle.player_end.proofs.link_ends.finding.first_in.Given as goal

abbrev pub invariant-loop-from : goal.invariant-loop-from
invariant-loop-from g l = NoneBelow (passes_there l.test) l.links.items l.from

abbrev pub decreases-loop-from : goal.decreases-loop-from
decreases-loop-from g l = length l.links.items - l.from
