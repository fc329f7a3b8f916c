use Rattle.std.specs.Int.Bits.{and_mask}
use Rattle.wire_base.proofs.BlockCheck.{after_eight_bytes}
use Rattle.wire_base.proofs.check.after_eight.Goals as goal

pub returns : goal.returns
returns c =
    rw (
      c.after_zeros.ensures,
      c.after_zeros-2.ensures,
      c.after_zeros-3.ensures,
      c.after_zeros-4.ensures,
      c.after_zeros-5.ensures,
      c.after_zeros-6.ensures,
      c.after_zeros-7.ensures,
      c.after_zeros-8.ensures,
      and_mask c.args.register 8,
    )
    (after_eight_bytes c.args.register c.args.eight.now c.requires)
