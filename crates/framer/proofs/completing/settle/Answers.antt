use Rattle.std.proofs.Common.{ℕ, List, ◌++◌, sym, ap, subst, arith}
use Rattle.std.proofs.lemmas.List.{length-drop}
use Rattle.framer.specs.inner.Held.{IsBegun}
use Rattle.framer.proofs.CutUnits.{stands_begun}
use Rattle.framer.proofs.Passing.{passes_more, passes_same}
use Rattle.framer.proofs.completing.settle.Goals as goal

pub returns-clause-passes : goal.returns-clause-passes
returns-clause-passes c more =
    let read = rw c.held.ensures at c.pass-passed.ensures.passes in
    passes_same _ _ _ _ (passes_more _ _ more _ read) (ap (λ (b : List ℕ). b ++ more) (sym c.drop_front.ensures))

pub returns-clause-begun : goal.returns-clause-begun
returns-clause-begun c =
    let read = rw c.held.ensures at c.pass-passed.ensures.found in
    subst IsBegun (sym c.drop_front.ensures)
    (stands_begun _ c.pass-passed.result.len read (omega (arith, length-drop c.pass-passed.result.at c.args.room.now.held)))
