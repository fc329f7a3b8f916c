use Rattle.std.proofs.Common.{◌≡◌, ◌<◌, take}
use Rattle.accusing.specs.Mark.{mark_of}
use Rattle.accusing.specs.declared.mark.TheConstants.{MODULUS}
use Rattle.accusing.proofs.mark.mark_of_body.Given as goal

abbrev pub invariant-loop-byte : goal.invariant-loop-byte
invariant-loop-byte l = (l.mark ≡ mark_of (take l.byte-index l.bytes)) × (l.mark < MODULUS)
