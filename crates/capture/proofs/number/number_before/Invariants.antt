-- Digits were read as far as the loop has come.
use Rattle.std.proofs.Common.{◌≤◌, take}
use Rattle.capture.proofs.NumberLaws.{HasRead}
use Rattle.capture.proofs.number.number_before.Given as goal

abbrev pub invariant-loop-at : goal.invariant-loop-at
invariant-loop-at l = (1 ≤ l.at) × HasRead l.value (take l.at l.text)
