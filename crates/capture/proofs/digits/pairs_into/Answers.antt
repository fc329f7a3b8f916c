use Rattle.std.proofs.Common.{◌*◌, ◌-◌, ◌+◌, length, arith}
use Rattle.capture.proofs.DigitsLaws.{pairs_of_others}
use Rattle.capture.proofs.SpelledLaws.{none_spelled, fewer_spelled, pairs_of_spelled, pairs_by}
use Rattle.capture.proofs.digits.pairs_into.Goals as goal

pub loop-block-init : goal.loop-block-init
loop-block-init c = (none_spelled c.args.bytes.now c.args.text.now, λ i. omega (arith, c.type_inv.bytes i))

pub returns-then-not-sixteen_into : goal.returns-then-not-sixteen_into
returns-then-not-sixteen_into c = pairs_of_others c.args.text.now (c.sixteen_into.ensures.others c.if-not-sixteen_into.true)

pub returns-then-len-eq0 : goal.returns-then-len-eq0
returns-then-len-eq0 c =
    pairs_of_spelled c.args.text.now c.loop-block.bytes _ (omega arith) c.loop-block.invariant.1 (omega arith) (omega arith) c.loop-block.invariant.0

pub returns : goal.returns
returns c =
    let len = length c.args.bytes.now in
    pairs_by c.args.text.now c.sixteen_into-2.new.bytes (len - 16 + 16) c.sixteen_into-2.result (omega arith) c.sixteen_into-2.ensures.bytes
    (omega arith) (omega arith)
    (λ all. c.sixteen_into-2.ensures.spelled all (fewer_spelled c.loop-block.bytes c.args.text.now (len - 16) (c.loop-block.block * 16) (omega arith)
    c.loop-block.invariant.0))
    c.sixteen_into-2.ensures.others
