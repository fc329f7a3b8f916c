-- The records before this one were told.
use Rattle.std.proofs.Common.{◌≡◌, take}
use Rattle.drawing.specs.Telling.{ladder_behind}
use Rattle.drawing.proofs.tell.follow_all.Given as goal

abbrev pub invariant-loop-index : goal.invariant-loop-index
invariant-loop-index l = l.ladder ≡ ladder_behind l.fn.ladder (take l.index l.later)
