use Rattle.accusing_segments.proofs.Prelude.{◌∙◌}
use Rattle.accusing_segments.proofs.Notes.{not_this}
use Rattle.accusing_segments.proofs.noted.Noted.release.Goals as goal

pub returns-then-not-forget-clause-firsts : goal.returns-then-not-forget-clause-firsts
returns-then-not-forget-clause-firsts c = λ words word o f n none.
    c.forget.ensures.firsts o f n
    (not_this words c.args.own c.args.far c.args.number c.loop-below.below o f n c.loop-below.invariant.small c.loop-below-test.true word none)
    ∙ c.loop-below.invariant.firsts words word o f n none

pub loop-below-preserved : goal.loop-below-preserved
loop-below-preserved c = record {
  called = c.forget.ensures.called ∙ c.loop-below.invariant.called;
  again = c.forget.ensures.again ∙ c.loop-below.invariant.again;
  small = c.loop-below.invariant.small;
  firsts = λ words word o f n none.
      c.forget.ensures.firsts o f n
      (not_this words c.args.own c.args.far c.args.number c.loop-below.below o f n c.loop-below.invariant.small c.loop-below-test.true word none)
      ∙ c.loop-below.invariant.firsts words word o f n none;
}
