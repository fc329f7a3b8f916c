use Rattle.accusing_segments.proofs.Prelude.{◌∙◌, arith, or_right, REACH, has}
use Rattle.accusing_segments.proofs.{Known.next_word, NotedAfter.covered_less}
use Rattle.accusing_segments.proofs.segment_accuser.SegmentAccuser.hears_words.Goals as goal

pub loop-word-preserved : goal.loop-word-preserved
loop-word-preserved c = record {
  ends = c.hears_word.ensures.ends ∙ c.loop-word.invariant.ends;
  rooms = c.hears_word.ensures.rooms ∙ c.loop-word.invariant.rooms;
  called = c.hears_word.ensures.called ∙ c.loop-word.invariant.called;
  again = c.hears_word.ensures.again ∙ c.loop-word.invariant.again;
  words = λ o f n w.
      next_word c.args.own c.args.far c.args.words.now c.loop-word.word-index _ (omega (arith, c.loop-word-test.true)) _ _ _ o f n w
      (c.in_ok-hears_word.ensures.words o f n w) (c.loop-word.invariant.words o f n w);
  firsts = λ o f n none.
      c.in_ok-hears_word.ensures.firsts o f n none
      ∙ c.loop-word.invariant.firsts o f n (covered_less (λ m. has c.loop-word.self.words o f m 0) (λ m. has c.hears_word.new.self.words o f m 0)
      (λ m e. c.in_ok-hears_word.ensures.words o f m 0 ∙ or_right _ _ e) n REACH none);
}
