-- The register is the check of the bytes that went in.
use Rattle.std.proofs.Common.{◌≡◌, ◌+◌, ◌*◌, ◌/◌, length, take}
use Rattle.wire_base.specs.BlockCheck.{check_of}
use Rattle.wire_base.proofs.check.block_check.Given as goal

abbrev pub invariant-loop-byte : goal.invariant-loop-byte
invariant-loop-byte l = l.register ≡ check_of (take (length l.field / 8 * 8 + l.byte-index) l.field)
