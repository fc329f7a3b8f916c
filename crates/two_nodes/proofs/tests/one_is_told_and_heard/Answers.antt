use Rattle.std.proofs.Common.{refl}
use Rattle.two_nodes.specs.Nodes.Run.{Done, OfA, OfB}
use Rattle.two_nodes.proofs.tests.one_is_told_and_heard.Goals as goal

pub returns : goal.returns
returns c = OfA refl (OfA refl (OfB refl Done))
