use Rattle.std.proofs.Common.{◌≡◌, ◌+◌, ◌%◌, sym, ap, ◌∙◌, subst, arith}
use Rattle.wire_base.specs.Seq.{IsLift, wire_distance}
use Rattle.wire_base.proofs.WireNumbers.{lift_least}
use Rattle.wire_base.proofs.seq.Seq.lift.Goals as goal

pub returns : goal.returns
returns g c =
    let distance : c.from.result ≡ wire_distance g.row.M (c.args.base % g.row.M) c.args.wire =
    c.from.ensures ∙ c.distance.ensures.value ∙ ap (λ z. wire_distance g.row.M z c.args.wire) c.of.ensures in
    subst (λ z. IsLift g.row.M c.args.base c.args.wire (c.args.base + z)) (sym distance) (lift_least g.row.M c.args.base c.args.wire (omega arith))
