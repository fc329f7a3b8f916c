use Rattle.std.proofs.Common.{◌≡◌, ℕ, suc, ◌+◌, ◌-◌, length, sym, subst, arith}
use Rattle.std.proofs.lemmas.List.{take_rest}
use Rattle.std.proofs.lemmas.Bool.{eqb-true, eq-eqb}
use Rattle.edited.specs.inner.Lines.{Reaches}
use Rattle.edited.proofs.LineLaws.{reaches_line, reaches_end}
use Rattle.edited.proofs.lines.reach.Goals as goal

pub returns-in_default-clause-reaches : goal.returns-in_default-clause-reaches
returns-in_default-clause-reaches c =
    let none = rw take_rest at c.in_default.ensures in
    let same : c.loop-left.left ≡ suc (c.loop-left.left - 1) = omega arith in
    subst (λ (left : ℕ). Reaches c.args.lines c.args.bytes.now (length c.args.bytes.now) left) (sym same)
    (reaches_end c.args.lines c.args.bytes.now c.loop-left.len (c.loop-left.left - 1)
    (subst (λ (left : ℕ). Reaches c.args.lines c.args.bytes.now c.loop-left.len left) same c.loop-left.invariant)
    (λ k lt e. none k (omega arith) lt (eq-eqb _ _ e)))

pub loop-left-preserved : goal.loop-left-preserved
loop-left-preserved c =
    let found = rw take_rest at c.in-Some.ensures in
    let same : c.loop-left.left ≡ suc (c.loop-left.left - 1) = omega arith in
    let next : c.in-Some.at + 1 ≡ suc c.in-Some.at = omega arith in
    subst (λ (at : ℕ). Reaches c.args.lines c.args.bytes.now (c.loop-left.len + at) (c.loop-left.left - 1)) (sym next)
    (reaches_line c.args.lines c.args.bytes.now c.loop-left.len (c.loop-left.left - 1) c.in-Some.at
    (subst (λ (left : ℕ). Reaches c.args.lines c.args.bytes.now c.loop-left.len left) same c.loop-left.invariant)
    found.0.high (eqb-true _ _ found.1) (λ k lt e. found.0.before k (omega arith) lt (eq-eqb _ _ e)))
