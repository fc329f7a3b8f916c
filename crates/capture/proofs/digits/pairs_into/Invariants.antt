use Rattle.std.proofs.Common.{◌*◌}
use Rattle.hex.specs.Hex.{IsBytes}
use Rattle.capture.specs.inner.Spelled.{IsSpelled}
use Rattle.capture.proofs.digits.pairs_into.Given as goal

abbrev pub invariant-loop-block : goal.invariant-loop-block
invariant-loop-block l = IsSpelled l.bytes l.text (l.block * 16) × IsBytes l.bytes
