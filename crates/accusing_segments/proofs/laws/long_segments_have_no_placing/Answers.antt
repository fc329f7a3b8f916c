use Rattle.accusing_segments.proofs.Final.{never_long}
use Rattle.accusing_segments.proofs.laws.long_segments_have_no_placing.Goals as goal

pub returns : goal.returns
returns c = never_long
