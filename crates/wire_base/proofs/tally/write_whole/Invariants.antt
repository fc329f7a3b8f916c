-- The writer took the beginning of the piece that is behind us, and no call failed.
use Rattle.std.proofs.Common.{◌≡◌, ℕ, ◌-◌, ◌≤◌, List, length, take, Option}
use Rattle.std.specs.Io.KnownBytes.{Appends}
use Rattle.wire_base.proofs.tally.write_whole.Given as goal

pub record HasTaken (taken : ℕ) (piece : List ℕ) (old new : Option (List ℕ)) (old_faults faults : ℕ) : Type 0 where
  pub within : taken ≤ length piece
  pub bytes : Appends old new (take taken piece)
  pub no_fault : faults ≡ old_faults

abbrev pub invariant-loop-taken : goal.invariant-loop-taken
invariant-loop-taken g l =
    HasTaken l.taken l.piece (g.W.Write.contents l.fn.writer.lent) (g.W.Write.contents l.writer.lent) l.fn.writer.faults l.writer.faults

abbrev pub decreases-loop-taken : goal.decreases-loop-taken
decreases-loop-taken g l = length l.piece - l.taken
