use Rattle.std.proofs.Common.{length, ap, arith}
use Rattle.aligning.proofs.Aligns.{all_put}
use Rattle.aligning.proofs.aligned.aligned_text.Goals as goal

pub returns : goal.returns
returns c =
    let capture = c.args.capture.now in
    let same = c.deref-record-items.ensures.value in
    all_put capture.own capture.peer c.args.other.now capture.records.items c.loop-record.text.items c.loop-record.ahead.next
    c.loop-record.ahead.rest.now c.loop-record.record-index (omega (arith, c.loop-record-test.false, ap length same))
    (rw same at c.loop-record.invariant.0)
