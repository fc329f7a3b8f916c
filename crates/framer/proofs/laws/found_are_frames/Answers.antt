use Rattle.framer.proofs.WrittenLaws.{all_frames}
use Rattle.framer.proofs.laws.found_are_frames.Goals as goal

pub returns : goal.returns
returns c = all_frames
