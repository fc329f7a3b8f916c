use Rattle.std.proofs.Common.{refl}
use Rattle.wire_base.specs.Tally.{tally_faults, tally_lent}
use Rattle.wire_tap.specs.Tapping.{held}
use Rattle.capture.specs.inner.Outlets.{outlet}
use Rattle.wire_tap.specs.inner.Side.{side_state}
use Rattle.wire_tap.proofs.EndLaws.{fails, refused}
use Rattle.wire_tap.proofs.LineLaws.{line_goes, line_over, line_written, over_on}
use Rattle.wire_tap.proofs.tapping.pass_on.Goals as goal

pub returns-in-Ok-clause-turns : goal.returns-in-Ok-clause-turns
returns-in-Ok-clause-turns g c was before after format text old h advances =
    let p = rw c.bytes.ensures at (rw c.in-Ok-None.field-0-is at c.in-Ok-None.ensures) in
    let on = line_goes format text old _ h c.args.at.last c.args.at.side was c.args.reader.now refl after (side_state c.pass_piece.new.self.a)
    (side_state c.pass_piece.new.self.b) advances p in
    let passes = c.in-Ok.ensures.writes in
    line_written format text old _ on (held (g.A.Write.contents (tally_lent c.write_full.new.a)) (g.B.Write.contents (tally_lent c.write_full.new.b)))
    c.write_full.new.of_a c.write_full.new.of_b passes.0.over passes.1.over c.in-Ok.ensures.units_a c.in-Ok.ensures.units_b

pub returns-in-Err-write_full-clause-turns : goal.returns-in-Err-write_full-clause-turns
returns-in-Err-write_full-clause-turns g c was before after format text old h advances =
    let p = rw c.bytes.ensures at (rw c.in-Ok-None.field-0-is at c.in-Ok-None.ensures) in
    let on = line_goes format text old _ h c.args.at.last c.args.at.side was c.args.reader.now refl after (side_state c.pass_piece.new.self.a)
    (side_state c.pass_piece.new.self.b) advances p in
    fails c.args.at.last format text old _ (line_over format text old _ on) c.in-Err-write_full.side (tally_faults c.args.a.now)
    (tally_faults c.args.b.now) (
      outlet c.write_full.new.of_a.text (g.A.Write.contents (tally_lent c.write_full.new.a)) (tally_faults c.write_full.new.a),
      outlet c.write_full.new.of_b.text (g.B.Write.contents (tally_lent c.write_full.new.b)) (tally_faults c.write_full.new.b),
    ) c.in-Err-write_full.ensures.writes

pub returns-in-Ok-Some-clause-turns : goal.returns-in-Ok-Some-clause-turns
returns-in-Ok-Some-clause-turns g c was before after format text old h advances =
    let p = rw c.bytes.ensures at (rw c.in-Ok-Some.field-0-is at c.in-Ok-Some.ensures) in (
      c.args.reader.now.items,
      after,
      over_on format text old _ h c.args.at.last c.args.at.side was c.args.reader.now refl after
          (side_state c.pass_piece.new.self.a) (side_state c.pass_piece.new.self.b) advances c.in-Ok-Some.ending p,
    )

pub returns-in-Err-clause-turns : goal.returns-in-Err-clause-turns
returns-in-Err-clause-turns g c was before after format text old h advances = refused c.args.at.last format text old _ (line_over format text old _ h)
