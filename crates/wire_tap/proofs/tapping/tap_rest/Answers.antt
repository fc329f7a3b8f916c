use Rattle.std.proofs.Common.{◌+◌, ◌∙◌, length, refl}
use Rattle.wire_base.specs.Tally.{tally_faults, tally_lent}
use Rattle.wire_base.specs.declared.side.Side.TheVariants as of_side
use Rattle.wire_text.specs.WireText.{PieceDeparts}
use Rattle.wire_tap.specs.Tapping.{held}
use Rattle.wire_tap.specs.inner.Moving.{is_failed_stop}
use Rattle.capture.specs.inner.Outlets.{outlet}
use Rattle.wire_tap.proofs.CountLaws.{reads_any, reads_fault, reads_text, writes_text}
use Rattle.wire_tap.proofs.EndLaws.{put_fails, refused, tap_departs, tap_ends}
use Rattle.wire_tap.proofs.tapping.tap_rest.Goals as goal

pub returns-in-Err-clause-taps : goal.returns-in-Err-clause-taps
returns-in-Err-clause-taps g c format text old h =
    (c.in-Err.ensures.stops format text old h, reads_fault _ _ _ refl c.in-Err.fault c.in-Err.ensures.reads)

pub returns-in_default-clause-taps : goal.returns-in_default-clause-taps
returns-in_default-clause-taps g c format text old h =
    let stopped = c.in-Ok.ensures.stops format text old h in
    (refused c.args.last format text old _ stopped.2.0, reads_any _ _ _ refl (is_failed_stop c.in-Ok.stop) c.in-Ok.ensures.reads)

pub returns-in-Err-write_both-clause-taps : goal.returns-in-Err-write_both-clause-taps
returns-in-Err-write_both-clause-taps g c format text old h =
    let stopped = c.in-Ok.ensures.stops format text old h in (
      put_fails c.args.last format text old _ _ _ stopped.2.0 c.in-Ok-finish.ensures.a c.in-Ok-finish.ensures.b c.in-Err-write_both.side
          (tally_faults c.pass_pieces.new.a) (tally_faults c.pass_pieces.new.b) (
            outlet c.write_both.new.of_a.text (g.A.Write.contents (tally_lent c.write_both.new.a)) (tally_faults c.write_both.new.a),
            outlet c.write_both.new.of_b.text (g.B.Write.contents (tally_lent c.write_both.new.b)) (tally_faults c.write_both.new.b),
          ) c.in-Err-write_both.ensures.writes,
      reads_any _ _ _ refl (is_failed_stop c.in-Ok.stop) c.in-Ok.ensures.reads,
    )

pub returns-in-Ends-clause-taps : goal.returns-in-Ends-clause-taps
returns-in-Ends-clause-taps g c format text old h =
    let stopped = rw c.in-Ends.is at c.in-Ok.ensures.stops format text old h in
    let passes = c.in_default-write_both.ensures.writes in (
      tap_ends c.args.last format text old _ _ _ stopped.2.0 c.in-Ok-finish.ensures.a c.in-Ok-finish.ensures.b
          (held (g.A.Write.contents (tally_lent c.write_both.new.a)) (g.B.Write.contents (tally_lent c.write_both.new.b)))
          c.write_both.new.of_a.text c.write_both.new.of_b.text c.in_default-write_both.ensures.empty_a c.in_default-write_both.ensures.empty_b
          passes.0.over passes.1.over c.in-Ends.ending c.tapped.result c.tapped.ensures.ending stopped.2.1
          (c.tapped.ensures.units_a ∙ c.in-Ok-finish.ensures.count_a) (c.tapped.ensures.units_b ∙ c.in-Ok-finish.ensures.count_b),
      rw c.in-Ends.is at c.in-Ok.ensures.reads,
    )

pub returns-in-Text-clause-taps : goal.returns-in-Text-clause-taps
returns-in-Text-clause-taps g c format text old h =
    let stopped = rw c.in-Text.is at c.in-Ok.ensures.stops format text old h in
    let passes = c.in_default-write_both.ensures.writes in (
      rw c.reading_fault.ensures (tap_departs c.args.last format text old _ _ _ stopped.2.0 c.in-Ok-finish.ensures.a c.in-Ok-finish.ensures.b
          (held (g.A.Write.contents (tally_lent c.write_both.new.a)) (g.B.Write.contents (tally_lent c.write_both.new.b)))
          c.write_both.new.of_a.text c.write_both.new.of_b.text c.in_default-write_both.ensures.empty_a c.in_default-write_both.ensures.empty_b
          passes.0.over passes.1.over c.in-Text.fault stopped.2.1),
      rw c.reading_fault.ensures (reads_text _ _ _ refl (PieceDeparts (length stopped.2.0.wire.items)) (length stopped.2.0.wire.items + 2)
          stopped.2.0.come c.in-Text.fault stopped.2.1.1 (rw c.in-Text.is at c.in-Ok.ensures.reads)),
    )

pub returns-in-Text-clause-writes_a : goal.returns-in-Text-clause-writes_a
returns-in-Text-clause-writes_a g c =
    rw c.reading_fault.ensures (writes_text of_side.A c.in-Text.fault _ _
    (c.in_default-write_both.ensures.writes.0.faults ∙ c.in-Ok.ensures.writes_a))

pub returns-in-Text-clause-writes_b : goal.returns-in-Text-clause-writes_b
returns-in-Text-clause-writes_b g c =
    rw c.reading_fault.ensures (writes_text of_side.B c.in-Text.fault _ _
    (c.in_default-write_both.ensures.writes.1.faults ∙ c.in-Ok.ensures.writes_b))
