use Rattle.std.proofs.Common.{sym, ◌∙◌, ap, arith, length}
use Rattle.ddcmp_msg.specs.Message.{IsBytes}
use Rattle.leaving_out.proofs.FittedKept.{fitted_body, unit_stays}
use Rattle.leaving_out.proofs.fitting.unit_fitted.Goals as goal

pub returns-in_default-2 : goal.returns-in_default-2
returns-in_default-2 c =
    let d = c.in-Sound-Data in
    let fits : IsBytes c.args.unit.now = λ i. omega (arith, c.type_inv.unit i) in
    unit_stays c.args.leaving.now c.args.kept c.args.sender c.args.unit.now fits d.flags d.resp d.num d.body.now
    (sym (rw d.field-0-is at d.ensures.value))
    (sym (rw c.in_default-2.is at c.in_ok-made-in-Sound-Data.ensures))

pub write_unit-requires : goal.write_unit-requires
write_unit-requires c =
    let d = c.in-Sound-Data in
    let fits : IsBytes c.args.unit.now = λ i. omega (arith, c.type_inv.unit i) in
    let made = fitted_body c.args.leaving.now c.args.kept c.args.sender c.args.unit.now fits d.flags d.resp d.num d.body.now
    (sym (rw d.field-0-is at d.ensures.value)) in
    let same = ap length (c.deref.ensures.value ∙ rw c.in-Some.is at c.in_ok-made-in-Sound-Data.ensures) in
    (omega (arith, made.some, same), omega (arith, made.short, same))
