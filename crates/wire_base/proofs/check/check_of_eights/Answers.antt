use Rattle.std.proofs.Common.{◌≡◌, ◌+◌, ◌*◌, ◌-◌, take, drop, fold, sym, ap, ap₂, ◌∙◌, arith}
use Rattle.std.proofs.lemmas.List.{take_all}
use Rattle.wire_base.specs.BlockCheck.{after_byte, check_of}
use Rattle.wire_base.proofs.BlockCheck.{check_of_none, check_of_piece}
use Rattle.wire_base.proofs.check.check_of_eights.Goals as goal

pub loop-i-init : goal.loop-i-init
loop-i-init c = sym check_of_none

pub loop-i-preserved : goal.loop-i-preserved
loop-i-preserved c =
    let next : 8 * c.loop-i.i + 8 ≡ 8 * (c.loop-i.i + 1) = omega arith in
    let eight : 8 * c.loop-i.i + 8 - 8 * c.loop-i.i ≡ 8 = omega arith in
    c.after_eight-register.ensures
    ∙ ap₂ (λ r n. fold after_byte r (take n (drop (8 * c.loop-i.i) c.args.field.now))) c.loop-i.invariant eight
    ∙ sym (check_of_piece c.args.field.now (8 * c.loop-i.i) 8) ∙ ap (λ n. check_of (take n c.args.field.now)) next

pub returns : goal.returns
returns c = c.loop-i.invariant ∙ ap check_of (take_all (8 * c.loop-i.i) c.args.field.now (omega arith))
