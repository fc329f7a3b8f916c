-- The ladder was told of records behind the refused one.
use Rattle.drawing.specs.Telling.{WereFollowed}
use Rattle.drawing.proofs.behind.tell_records.Given as goal

abbrev pub invariant-loop-number : goal.invariant-loop-number
invariant-loop-number g l = WereFollowed l.fn.ladder l.ladder
