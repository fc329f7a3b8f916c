use Rattle.std.proofs.Common.{◌≡◌, ◌+◌, ◌-◌, ◌%◌, ◌<◌, ap₂, ◌∙◌, arith}
use Rattle.wire_base.proofs.WireNumbers.{wire_distance-numbers}
use Rattle.wire_base.proofs.seq.Seq.distance.Goals as goal

pub returns-clause-numbers : goal.returns-clause-numbers
returns-clause-numbers g c =
    let pos : 0 < g.row.M = omega (arith, c.to.invariant) in
    λ low high rises from to.
    let gap : c.from.result + c.from-2.result - c.from-4.result ≡ high % g.row.M + g.row.M - low % g.row.M =
    omega (arith, c.to.view_is, c.from-3.view_is) in
    ap₂ (λ x y. x % y) gap c.from-5.ensures ∙ wire_distance-numbers g.row.M low high pos rises
