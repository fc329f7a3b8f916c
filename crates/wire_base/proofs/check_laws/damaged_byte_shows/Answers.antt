use Rattle.std.proofs.Common.{arith}
use Rattle.wire_base.proofs.BlockCheck.{one_byte_shows}
use Rattle.wire_base.proofs.check_laws.damaged_byte_shows.Goals as goal

pub returns : goal.returns
returns c =
    λ good. one_byte_shows c.args.before.now c.args.after.now c.args.received c.args.sent (λ i. omega (arith, c.type_inv.before i)) (omega arith)
    (omega arith) good.copies c.requires.copies
