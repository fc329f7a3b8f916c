-- The item is lent, and one call changes it.
use Rattle.std.proofs.Common.{refl, sym}
use Rattle.wire_base.proofs.ring_window.RingWindowWindow.amend.Goals as goal

pub returns : goal.returns
returns g c = (_, _, sym c.in-Some.ensures.value, record { shown = _; shows = refl; left = _; met = c.change.ensures; leaves = refl }, refl)
