use Rattle.capture.proofs.ConvertLaws.{converted_is_same}
use Rattle.capture.proofs.laws.converted_is_same.Goals as goal

pub returns : goal.returns
returns c = converted_is_same
