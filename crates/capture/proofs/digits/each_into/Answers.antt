use Rattle.std.proofs.Common.{◌&&◌, ◌∙◌, sym, refl, ap₂, arith}
use Rattle.std.proofs.lemmas.Bool.{and_parts}
use Rattle.capture.proofs.SpelledLaws.{bytes_set, none_spelled, byte_spelled, two_more}
use Rattle.capture.proofs.digits.each_into.Goals as goal

pub loop-i-init : goal.loop-i-init
loop-i-init c = (refl, λ all. none_spelled c.args.bytes.now c.args.text.now, λ i. omega (arith, c.type_inv.bytes i))

pub loop-i-preserved : goal.loop-i-preserved
loop-i-preserved c =
    let text = c.args.text.now in
    let i = c.loop-i.i in
    let high = c.is_lower_digit in
    let low = c.is_lower_digit-in-loop-i in
    let read = c.loop-i.invariant in (
      ap₂ ◌&&◌ read.0 (ap₂ ◌&&◌ high.ensures low.ensures) ∙ sym (two_more text i (omega arith)),
      λ all.
          let parts = and_parts c.loop-i.all (high.result && low.result) all in
          let both = and_parts high.result low.result parts.1 in
          let spelled = c.byte_of.ensures (sym high.ensures ∙ both.0) (sym low.ensures ∙ both.1) in
          byte_spelled c.loop-i.bytes text i c.byte_of.result (omega arith) (omega arith) (read.1 parts.0) spelled.0 spelled.1,
      bytes_set c.loop-i.bytes i c.byte_of.result c.byte_of.type_inv read.2,
    )
