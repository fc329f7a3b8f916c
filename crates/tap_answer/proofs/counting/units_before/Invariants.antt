use Rattle.std.proofs.Common.{◌≤◌}
use Rattle.wire_base.specs.Tally.{tally_lent}
use Rattle.capture.specs.Lines.{to_come}
use Rattle.tap_answer.proofs.BeforeLaws.{IsCounting}
use Rattle.tap_answer.proofs.counting.units_before.Given as goal

abbrev pub invariant-loop : goal.invariant-loop
invariant-loop g l = record {
  counting : IsCounting (g.R.Read.remaining (tally_lent l.fn.capture))
      (to_come l.reader.unread (g.R.Read.remaining (tally_lent l.capture))) l.reader l.counter l.units;
  few : l.units ≤ l.counter;
}
