use Rattle.std.proofs.Common.{sym, subst}
use Rattle.framer.specs.inner.Held.{IsHeld}
use Rattle.framer.proofs.CutUnits.{held_none}
use Rattle.framer.proofs.framer.Framer.new.Goals as goal

pub invariant_of-result : goal.invariant_of-result
invariant_of-result c = subst IsHeld (sym c.in_ok-room.ensures.0) held_none
