use Rattle.std.proofs.Common.{◌≡◌, true, ◌*◌, take}
use Rattle.std.specs.List.{list_all}
use Rattle.hex.specs.Hex.{IsBytes}
use Rattle.capture.specs.Reading.{is_digit}
use Rattle.capture.specs.inner.Spelled.{IsSpelled}
use Rattle.capture.proofs.digits.each_into.Given as goal

abbrev pub invariant-loop-i : goal.invariant-loop-i
invariant-loop-i l = (l.all ≡ list_all is_digit (take (2 * l.i) l.text)) × (l.all ≡ true → IsSpelled l.bytes l.text l.i) × IsBytes l.bytes
