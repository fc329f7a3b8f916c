use Rattle.std.proofs.Common.{◌≡◌, length}
use Rattle.std.specs.Io.KnownBytes.{Keeps}
use Rattle.edited.specs.Reader.{edited_remaining}
use Rattle.edited.proofs.reader.EditedReaderRead.read.Given as goal

abbrev pub invariant-loop : goal.invariant-loop
invariant-loop g l =
    Keeps (edited_remaining g.R.Read.remaining l.fn.self) (edited_remaining g.R.Read.remaining l.self)
    × (length l.buf ≡ length l.fn.buf)
