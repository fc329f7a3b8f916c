use Rattle.std.proofs.Common.{◌+◌, ◌≤◌, ◌++◌, length, drop}
use Rattle.framer.specs.Given.{Passes}
use Rattle.framer.specs.inner.Held.{IsBegun}
use Rattle.framer.proofs.completing.complete_header.Given as goal

abbrev pub invariant-loop-count : goal.invariant-loop-count
invariant-loop-count l =
    Passes (l.fn.room.held ++ l.piece) l.strays (l.room.held ++ drop l.count l.piece)
    × IsBegun l.room.held × (l.strays + length l.room.held ≤ length l.fn.room.held + l.count)
