use Rattle.accusing_segments.proofs.OneCallFinal.{never_changed}
use Rattle.accusing_segments.proofs.laws.changed_segments_have_no_placing.Goals as goal

pub returns : goal.returns
returns c = never_changed
