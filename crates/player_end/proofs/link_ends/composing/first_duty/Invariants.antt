use Rattle.std.proofs.Common.{◌≡◌, ◌-◌, length}
use Rattle.player_end.specs.inner.Index.{AreMarked}
use Rattle.player_end.specs.inner.Marks.{IsUnmarkedBelow}
use Rattle.player_end.proofs.link_ends.composing.first_duty.Given as goal

abbrev pub invariant-loop-from : goal.invariant-loop-from
invariant-loop-from g l =
    AreMarked l.links.items l.marks.marks.items × (length l.marks.marks.items ≡ length l.links.items) × IsUnmarkedBelow l.from l.marks.marks.items

abbrev pub decreases-loop-from : goal.decreases-loop-from
decreases-loop-from g l = length l.links.items - l.from
