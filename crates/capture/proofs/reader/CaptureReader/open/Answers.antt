use Rattle.std.proofs.Common.{refl}
use Rattle.wire_base.specs.Tally.{tally_lent}
use Rattle.capture.proofs.PartText.{departs_as_part}
use Rattle.capture.proofs.reader.CaptureReader.open.Goals as goal

pub returns-in-Ok-Part-clause-opens : goal.returns-in-Ok-Part-clause-opens
returns-in-Ok-Part-clause-opens g c = (
  refl,
  departs_as_part _ (g.R.Read.remaining (tally_lent c.open_either.new.reader)) c.in-Ok-Part.field-0-0
      (rw c.in-Ok-Part.field-0-is at c.in-Ok-Part.ensures.opens),
)
