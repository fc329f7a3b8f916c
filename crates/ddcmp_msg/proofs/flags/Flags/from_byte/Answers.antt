use Rattle.ddcmp_msg.proofs.Bits.{tested}
use Rattle.ddcmp_msg.proofs.flags.Flags.from_byte.Goals as goal

pub returns : goal.returns
returns c = tested c.args.byte
