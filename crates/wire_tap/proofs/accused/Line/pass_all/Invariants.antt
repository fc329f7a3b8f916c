use Rattle.std.proofs.Common.{◌≡◌, ◌≤◌, Bool, List, ℕ, Option}
use Rattle.wire_base.specs.Tally.{tally_lent}
use Rattle.capture.specs.declared.phase.Phase.TheVariants.{Reading}
use Rattle.capture.specs.Lines.{to_come}
use Rattle.wire_text.specs.declared.limit.TheConstants.{MAX_PIECES}
use Rattle.wire_tap.specs.inner.Accused.{IsReading}
use Rattle.wire_tap.proofs.accused.Line.pass_all.Given as goal

abbrev pub invariant-loop : goal.invariant-loop
invariant-loop g l = record {
  line : (line_alone : Bool) (text : Option (List ℕ))
      → IsReading line_alone text l.fn.reader.items (to_come l.fn.reader.unread (g.W.Read.remaining (tally_lent l.fn.wire))) l.fn.self
      → IsReading line_alone text l.reader.items (to_come l.reader.unread (g.W.Read.remaining (tally_lent l.wire))) l.self;
  reading : l.reader.phase ≡ Reading;
  counted : l.reader.items ≡ l.counter;
  few : l.counter ≤ MAX_PIECES;
}
