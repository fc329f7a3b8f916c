use Rattle.std.proofs.Common.{◌-◌, ◌+◌, length, arith}
use Rattle.capture.proofs.DigitsLaws.{pairs_of_others}
use Rattle.capture.proofs.SpelledLaws.{none_spelled, fewer_spelled, pairs_of_spelled, pairs_by}
use Rattle.capture.proofs.digits.few_into.Goals as goal

pub returns-then-len-lt-EIGHT : goal.returns-then-len-lt-EIGHT
returns-then-len-lt-EIGHT c =
    pairs_by c.args.text.now c.each_into.new.bytes _ c.each_into.result (omega arith) c.each_into.ensures.bytes (omega arith) (omega arith)
    c.each_into.ensures.spelled c.each_into.ensures.others

pub returns-then-not-eight_into : goal.returns-then-not-eight_into
returns-then-not-eight_into c = pairs_of_others c.args.text.now (c.eight_into.ensures.others c.if-not-eight_into.true)

pub returns-then-len-eq-EIGHT : goal.returns-then-len-eq-EIGHT
returns-then-len-eq-EIGHT c =
    pairs_of_spelled c.args.text.now c.eight_into.new.bytes 8 (omega arith) c.eight_into.ensures.bytes (omega arith) (omega arith)
    (c.eight_into.ensures.spelled c.if-not-eight_into.false (none_spelled c.args.bytes.now c.args.text.now))

pub returns : goal.returns
returns c =
    let len = length c.args.bytes.now in
    pairs_by c.args.text.now c.eight_into-2.new.bytes (len - 8 + 8) c.eight_into-2.result (omega arith) c.eight_into-2.ensures.bytes
    (omega arith) (omega arith)
    (λ all. c.eight_into-2.ensures.spelled all (fewer_spelled c.eight_into.new.bytes c.args.text.now (len - 8) 8 (omega arith)
    (c.eight_into.ensures.spelled c.if-not-eight_into.false (none_spelled c.args.bytes.now c.args.text.now))))
    c.eight_into-2.ensures.others
