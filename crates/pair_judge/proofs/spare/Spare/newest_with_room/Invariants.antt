use Rattle.std.proofs.Common.{◌≤◌, length}
use Rattle.pair_judge.proofs.spare.Spare.newest_with_room.Given as goal

abbrev pub invariant-loop-above : goal.invariant-loop-above
invariant-loop-above l = l.above ≤ length l.self.rooms.items

abbrev pub decreases-loop-above : goal.decreases-loop-above
decreases-loop-above l = l.above
