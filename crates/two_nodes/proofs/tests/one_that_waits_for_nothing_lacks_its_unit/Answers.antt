use Rattle.std.proofs.Common.{[], refl}
use Rattle.two_nodes.specs.inner.Example.Event.{Hear}
use Rattle.two_nodes.specs.Nodes.{start_world}
use Rattle.two_nodes.specs.Nodes.Run.{Done}
use Rattle.two_nodes.proofs.tests.one_that_waits_for_nothing_lacks_its_unit.Goals as goal

pub returns-clause-lacks : goal.returns-clause-lacks
returns-clause-lacks c = c.one_waiting.ensures.a_lacks 0 0 (start_world 0 0) (Hear 0 1) [] [] [] Done refl
