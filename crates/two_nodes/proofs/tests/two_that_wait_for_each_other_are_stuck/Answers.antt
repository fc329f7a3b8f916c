use Rattle.std.proofs.Common.{[], ◌∷◌, refl}
use Rattle.two_nodes.specs.inner.Example.Event.{Count, Hear}
use Rattle.two_nodes.specs.Nodes.{start_world}
use Rattle.two_nodes.specs.Nodes.Run.{Done}
use Rattle.two_nodes.proofs.tests.two_that_wait_for_each_other_are_stuck.Goals as goal

pub returns-clause-stuck : goal.returns-clause-stuck
returns-clause-stuck c = c.both_waiting.ensures.stuck 0 0 (start_world 0 0) (Hear 0 1) (Hear 0 1) [] [] [] (Count ∷ []) Done refl refl
