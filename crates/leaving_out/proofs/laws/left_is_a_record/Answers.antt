use Rattle.leaving_out.proofs.Fits.{record_fits}
use Rattle.leaving_out.proofs.laws.left_is_a_record.Goals as goal

pub returns : goal.returns
returns c = record_fits
