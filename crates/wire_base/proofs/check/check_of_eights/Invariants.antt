-- The register is the check of the eights that went in.
use Rattle.std.proofs.Common.{◌≡◌, ◌*◌, take}
use Rattle.wire_base.specs.BlockCheck.{check_of}
use Rattle.wire_base.proofs.check.check_of_eights.Given as goal

abbrev pub invariant-loop-i : goal.invariant-loop-i
invariant-loop-i l = l.register ≡ check_of (take (8 * l.i) l.field)
