use Rattle.accusing_segments.proofs.Prelude.{◌≡◌, ℕ, ◌+◌, ◌%◌, true, false, sym, subst, arith, ◌∙◌, wire, has, is_covered}
use Rattle.accusing_segments.proofs.{Known.one_more_covered, Passing.covered}
use Rattle.accusing_segments.proofs.segment_accuser.SegmentAccuser.is_covered.Goals as goal

pub returns-then-named : goal.returns-then-named
returns-then-named c =
    let l = c.loop-above-test.true in
    let same : (c.args.number % 4096 + c.loop-above.above) % 4096 ≡ wire (c.args.number + c.loop-above.above) = omega arith in
    sym (covered (λ n. has c.args.self.now.words c.args.own c.args.far n 0) c.args.number c.loop-above.above 2047 (omega (arith, l))
    (subst (λ (n : ℕ). has c.args.self.now.words c.args.own c.args.far n 0 ≡ true) same (sym c.named.ensures ∙ c.if-named.true)))

pub loop-above-preserved : goal.loop-above-preserved
loop-above-preserved c =
    let same : (c.args.number % 4096 + c.loop-above.above) % 4096 ≡ wire (c.args.number + c.loop-above.above) = omega arith in
    one_more_covered (λ n. has c.args.self.now.words c.args.own c.args.far n 0) c.args.number c.loop-above.above
    (subst (λ (n : ℕ). has c.args.self.now.words c.args.own c.args.far n 0 ≡ false) same (sym c.named.ensures ∙ c.if-named.false))
    c.loop-above.invariant

pub returns : goal.returns
returns c =
    let m = c.loop-above-test.false in
    let n = c.loop-above.auto.above-end in
    let end : c.loop-above.above ≡ 2047 = omega (arith, m, n) in
    sym (subst (λ (x : ℕ). is_covered (λ n. has c.args.self.now.words c.args.own c.args.far n 0) c.args.number x ≡ false) end c.loop-above.invariant)
