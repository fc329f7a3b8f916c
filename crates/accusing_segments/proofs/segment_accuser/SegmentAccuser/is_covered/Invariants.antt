use Rattle.accusing_segments.proofs.Prelude.{◌≡◌, false, has, is_covered}
use Rattle.accusing_segments.proofs.segment_accuser.SegmentAccuser.is_covered.Given as goal

abbrev pub invariant-loop-above : goal.invariant-loop-above
invariant-loop-above l = is_covered (λ n. has l.self.words l.own l.far n 0) l.number l.above ≡ false
