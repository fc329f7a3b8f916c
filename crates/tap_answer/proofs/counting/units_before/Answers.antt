use Rattle.std.proofs.Common.{arith}
use Rattle.wire_base.specs.Tally.{tally_lent}
use Rattle.capture.specs.Lines.{to_come}
use Rattle.capture_record.specs.Entries.{record_with}
use Rattle.tap_answer.proofs.BeforeLaws.{counting_begins, counting_done, counting_on}
use Rattle.tap_answer.proofs.counting.units_before.Goals as goal

pub loop-init : goal.loop-init
loop-init g c = record {
  counting = counting_begins _ (g.R.Read.remaining (tally_lent c.open.new.reader)) c.in_ok-reader.reader c.in_ok-reader.ensures.opens;
  few = omega arith;
}

pub loop-preserved : goal.loop-preserved
loop-preserved g c =
    let new = c.advance.new.self in
    let gives = rw c.in-Ok-Some.field-0-is at c.in-Ok-Some.ensures.gives c.loop.invariant.counting.reading in
    let head = c.in-Ok-Some.ensures.head in
    let few = c.loop.invariant.few in
    let one = c.units_of-units.ensures.few in
    record {
      counting = counting_on _ _ (to_come new.unread (g.R.Read.remaining (tally_lent c.advance.new.reader))) c.loop.reader new c.loop.counter
          c.loop.units c.loop.invariant.counting (record_with c.in-Ok-Some.entry new.bytes) c.units_of-units.result
          (c.units_of-units.ensures.units new.bytes) gives head.0 head.1;
      few = omega arith;
    }

pub returns : goal.returns
returns g c =
    let most = c.loop.auto.counter-end in
    let least = c.loop-test.false in
    counting_done _ _ _ c.loop.counter c.args.place c.loop.units c.loop.invariant.counting (omega arith)
