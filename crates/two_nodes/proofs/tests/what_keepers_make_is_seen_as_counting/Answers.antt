use Rattle.std.proofs.Common.{[]}
use Rattle.two_nodes.specs.Nodes.{start_world}
use Rattle.two_nodes.specs.inner.Keeping.{new_keeper}
use Rattle.two_nodes.proofs.Counts.{commutes, is_kept}
use Rattle.two_nodes.proofs.tests.what_keepers_make_is_seen_as_counting.Goals as goal

pub returns : goal.returns
returns c = record {
  seen = λ end xs ys run. c.simulation.ensures.seen (start_world new_keeper new_keeper) end [] [] xs ys is_kept commutes tt run;
  comes_of = λ seen xs ys run. c.simulation.ensures.comes_of (start_world new_keeper new_keeper) seen [] [] xs ys is_kept commutes tt run;
}
