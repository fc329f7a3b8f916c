use Rattle.std.proofs.Common.{arith, sym}
use Rattle.std.proofs.lemmas.List.{take_rest}
use Rattle.capture.proofs.NumberLaws.{read_more, read_small, number_stands}
use Rattle.capture.proofs.number.number_before.Goals as goal

pub overflow_mul-value : goal.overflow_mul-value
overflow_mul-value c =
    let below = read_small c.loop-at.value c.loop-at.at c.args.text.now c.loop-at.invariant.1 (omega arith) in
    omega arith

pub overflow_add-value : goal.overflow_add-value
overflow_add-value c =
    let below = read_small c.loop-at.value c.loop-at.at c.args.text.now c.loop-at.invariant.1 (omega arith) in
    let byte = c.type_inv.text c.loop-at.at in
    let value = c.from.ensures in
    omega arith

pub loop-at-preserved : goal.loop-at-preserved
loop-at-preserved c = (
  omega arith,
  rw c.from.ensures
      (read_more c.loop-at.value c.loop-at.at c.args.text.now c.loop-at.invariant.1 (omega arith) (sym c.if-not-is_ascii_digit-2.ensures.value)),
)

pub returns-then-not-is_ascii_digit-2-clause-value : goal.returns-then-not-is_ascii_digit-2-clause-value
returns-then-not-is_ascii_digit-2-clause-value c =
    let read = c.loop-at.invariant in
    rw take_rest (number_stands c.args.most c.loop-at.value c.args.text.now c.loop-at.at read.1 read.0 (omega arith) (omega arith)
    c.if-digit-ne32.false c.if-text-eq48.false (omega arith))
