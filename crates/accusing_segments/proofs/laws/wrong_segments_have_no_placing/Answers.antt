use Rattle.accusing_segments.proofs.Final.{never_placed}
use Rattle.accusing_segments.proofs.laws.wrong_segments_have_no_placing.Goals as goal

pub returns : goal.returns
returns c = λ queues head before later unit records refuted placing all.
    never_placed queues head before later unit records refuted placing all
