use Rattle.capture.proofs.LanesLaws.{joined_of}
use Rattle.capture.proofs.lanes.sixteen_of.Goals as goal

pub returns : goal.returns
returns c = joined_of 16 c.args.values c.fits-values.0 c.fits-values.1
