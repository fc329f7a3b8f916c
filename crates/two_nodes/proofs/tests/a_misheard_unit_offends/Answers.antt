use Rattle.std.proofs.Common.{[], ◌∷◌, refl}
use Rattle.two_nodes.specs.inner.Example.Event.{Count, Tell, Hear}
use Rattle.two_nodes.specs.inner.Example.Fault.{Misheard}
use Rattle.two_nodes.specs.Nodes.{start_world}
use Rattle.two_nodes.specs.Nodes.Run.{Done, OfA}
use Rattle.two_nodes.proofs.tests.a_misheard_unit_offends.Goals as goal

pub returns : goal.returns
returns c = record {
  offends = c.refused_record.ensures.b_offends 0 0 _ (Hear 0 2) Misheard (Count ∷ Tell ∷ []) [] [] [] (OfA refl (OfA refl Done)) refl;
  no_run = c.refused_record.ensures.b_ends (start_world 0 0) _ (Hear 0 2) Misheard (Count ∷ Tell ∷ []) [] [] [] (OfA refl (OfA refl Done)) refl;
}
