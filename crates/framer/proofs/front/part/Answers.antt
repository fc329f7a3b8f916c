use Rattle.std.proofs.Common.{sym, ◌∙◌}
use Rattle.framer.proofs.CutUnits.{whole_starts}
use Rattle.framer.proofs.front.part.Goals as goal

pub unreachable-requires : goal.unreachable-requires
unreachable-requires c = whole_starts c.args.bytes.now c.args.len c.requires.whole (sym c.of.ensures ∙ c.in-None.is)
