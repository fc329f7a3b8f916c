use Rattle.std.proofs.Common.{◌≡◌, ◌≤◌, List, ℕ, Option}
use Rattle.wire_base.specs.Tally.{tally_faults, tally_lent}
use Rattle.capture.specs.declared.format.Format.{Format}
use Rattle.capture.specs.declared.phase.Phase.TheVariants.{Reading}
use Rattle.capture.specs.Lines.{to_come}
use Rattle.wire_text.specs.declared.limit.TheConstants.{MAX_PIECES}
use Rattle.wire_tap.specs.Tapping.{Held, held}
use Rattle.wire_tap.specs.inner.Moving.{IsLineUnderWay, line_state}
use Rattle.wire_tap.proofs.tapping.pass_pieces.Given as goal

abbrev pub invariant-loop : goal.invariant-loop
invariant-loop g l = record {
  line : (format : Format) (text : Option (List ℕ)) (old : Held) → IsLineUnderWay format text old (line_state l.fn.reader.items
      (to_come l.fn.reader.unread (g.W.Read.remaining (tally_lent l.fn.wire))) l.fn.sides.a l.fn.sides.b
      (held (g.A.Write.contents (tally_lent l.fn.a)) (g.B.Write.contents (tally_lent l.fn.b))))
      → IsLineUnderWay format text old (line_state l.reader.items
      (to_come l.reader.unread (g.W.Read.remaining (tally_lent l.wire))) l.sides.a l.sides.b
      (held (g.A.Write.contents (tally_lent l.a)) (g.B.Write.contents (tally_lent l.b))));
  reading : l.reader.phase ≡ Reading;
  counted : l.reader.items ≡ l.counter;
  few : l.counter ≤ MAX_PIECES;
  reads : tally_faults l.wire ≡ tally_faults l.fn.wire;
  writes_a : tally_faults l.a ≡ tally_faults l.fn.a;
  writes_b : tally_faults l.b ≡ tally_faults l.fn.b;
}
