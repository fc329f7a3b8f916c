use Rattle.std.proofs.Common.{take}
use Rattle.capture.proofs.NumberLaws.{HasRead}
use Rattle.capture.proofs.number.number_of.Given as goal

abbrev pub invariant-loop-digit : goal.invariant-loop-digit
invariant-loop-digit l = HasRead l.value (take l.digit-index l.text)
