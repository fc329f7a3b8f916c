use Rattle.capture.proofs.SpelledLaws.{byte_right}
use Rattle.capture.proofs.digits.byte_of.Goals as goal

pub returns : goal.returns
returns c high low = rw (c.wrapping_shl.ensures, c.from_le_bytes-digits.ensures) (byte_right c.args.high c.args.low high low)
