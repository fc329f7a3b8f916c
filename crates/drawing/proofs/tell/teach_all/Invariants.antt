-- The records before this one were learned.
use Rattle.std.proofs.Common.{◌≡◌, take}
use Rattle.drawing.specs.Telling.{ladder_knowing}
use Rattle.drawing.proofs.tell.teach_all.Given as goal

abbrev pub invariant-loop-index : goal.invariant-loop-index
invariant-loop-index l = l.ladder ≡ ladder_knowing l.fn.ladder (take l.index l.records)
