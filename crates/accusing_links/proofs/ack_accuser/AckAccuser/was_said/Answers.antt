use Rattle.accusing_links.proofs.Prelude.{◌≡◌, ℕ, ◌+◌, ◌%◌, true, false, sym, subst, arith, ◌∙◌, wire, has, was_said}
use Rattle.accusing_links.proofs.Saying.{one_more_said, said_one}
use Rattle.accusing_links.proofs.ack_accuser.AckAccuser.was_said.Goals as goal

pub returns-then-has_said : goal.returns-then-has_said
returns-then-has_said c =
    let l = c.loop-above-test.true in
    let same : (c.args.number % 4096 + c.loop-above.above + 1) % 4096 ≡ wire (c.args.number + (c.loop-above.above + 1)) = omega arith in
    sym (said_one (has c.args.self.now.said c.args.own c.args.far) c.args.number c.loop-above.above 2047 (omega (arith, l))
    (subst (λ (n : ℕ). has c.args.self.now.said c.args.own c.args.far n ≡ true) same (sym c.has_said.ensures ∙ c.if-has_said.true)))

pub loop-above-preserved : goal.loop-above-preserved
loop-above-preserved c =
    let same : (c.args.number % 4096 + c.loop-above.above + 1) % 4096 ≡ wire (c.args.number + (c.loop-above.above + 1)) = omega arith in
    one_more_said (has c.args.self.now.said c.args.own c.args.far) c.args.number c.loop-above.above
    (subst (λ (n : ℕ). has c.args.self.now.said c.args.own c.args.far n ≡ false) same (sym c.has_said.ensures ∙ c.if-has_said.false))
    c.loop-above.invariant

pub returns : goal.returns
returns c =
    let m = c.loop-above-test.false in
    let n = c.loop-above.auto.above-end in
    let end : c.loop-above.above ≡ 2047 = omega (arith, m, n) in
    sym (subst (λ (x : ℕ). was_said (has c.args.self.now.said c.args.own c.args.far) c.args.number x ≡ false) end c.loop-above.invariant)
