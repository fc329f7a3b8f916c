use Rattle.accusing_segments.proofs.Prelude.{◌≡◌, ℕ, ◌<◌, true, false, REACH, Known, is_covered, first_noted}
use Rattle.accusing_segments.proofs.noted.Noted.release.Given as goal

abbrev pub invariant-loop-below : goal.invariant-loop-below
invariant-loop-below l = record {
  called : l.self.called ≡ l.fn.self.called;
  again : l.self.again ≡ l.fn.self.again;
  small : l.number < 4096;
  firsts : (words : Known) → words l.own l.far l.number 0 ≡ true → (o f n : ℕ) → is_covered (λ m. words o f m 0) n REACH ≡ false →
      first_noted l.self.firsts o f n ≡ first_noted l.fn.self.firsts o f n;
}
