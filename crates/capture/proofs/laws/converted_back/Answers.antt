use Rattle.capture.proofs.ConvertLaws.{converted_back}
use Rattle.capture.proofs.laws.converted_back.Goals as goal

pub returns : goal.returns
returns c = converted_back
