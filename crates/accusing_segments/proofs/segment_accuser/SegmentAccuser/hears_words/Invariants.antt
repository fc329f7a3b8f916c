use Rattle.accusing_segments.proofs.Prelude.{◌≡◌, ◌||◌, ℕ, false, take, REACH, has, words_name, is_covered, first_noted}
use Rattle.accusing_segments.proofs.segment_accuser.SegmentAccuser.hears_words.Given as goal

abbrev pub invariant-loop-word : goal.invariant-loop-word
invariant-loop-word l = record {
  ends : l.self.ends ≡ l.fn.self.ends;
  rooms : l.self.rooms ≡ l.fn.self.rooms;
  called : l.self.noted.called ≡ l.fn.self.noted.called;
  again : l.self.noted.again ≡ l.fn.self.noted.again;
  words : (o f n w : ℕ) → has l.self.words o f n w ≡ (words_name l.own l.far (take l.word-index l.words) o f n w || has l.fn.self.words o f n w);
  firsts : (o f n : ℕ) → is_covered (λ m. has l.self.words o f m 0) n REACH ≡ false →
      first_noted l.self.noted.firsts o f n ≡ first_noted l.fn.self.noted.firsts o f n;
}
