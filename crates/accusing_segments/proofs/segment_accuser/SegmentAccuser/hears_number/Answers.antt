use Rattle.accusing_segments.proofs.Prelude.{ap, ◌∙◌, or_left, Sight, has, first_noted}
use Rattle.accusing_segments.proofs.Passing.{this_is}
use Rattle.accusing_segments.proofs.segment_accuser.SegmentAccuser.hears_number.Goals as goal

pub returns-clause-firsts : goal.returns-clause-firsts
returns-clause-firsts c = λ o f n none.
    c.release.ensures.firsts (has c.keep.new.self)
    (c.in_ok-keep.ensures c.args.own c.args.far c.args.number 0 ∙ or_left _ _ (this_is c.args.own c.args.far c.args.number 0)) o f n none
    ∙ ap (λ (s : Sight). first_noted s.noted.firsts o f n) c.self.view_is
