use Rattle.std.proofs.Common.{◌∙◌, ℕ, [], subst}
use Rattle.wire_base.specs.Tally.{tally_faults, tally_lent}
use Rattle.wire_base.specs.declared.side.Side.TheVariants as of_side
use Rattle.wire_tap.specs.Tapping.{CountsReadsOf, CountsWritesOf, held}
use Rattle.capture.specs.inner.Outlets.{outlet}
use Rattle.wire_tap.proofs.BeginLaws.{head_fails, line_begun, spelled}
use Rattle.wire_tap.proofs.tapping.tap.Goals as goal

pub returns-in-Err-write_heads-clause-taps : goal.returns-in-Err-write_heads-clause-taps
returns-in-Err-write_heads-clause-taps g c =
    let heads = rw (c.format_of-format.ensures, c.node_a.ensures, c.node_b.ensures) at c.in-Ok-heads.ensures in
    head_fails _ _ (g.W.Read.remaining (tally_lent c.open.new.reader))
    (held (g.A.Write.contents (tally_lent c.args.a.now)) (g.B.Write.contents (tally_lent c.args.b.now))) c.in-Ok.reader c.in-Ok.ensures.opens
    c.args.asked.last c.in-Err-write_heads.side (tally_faults c.args.a.now) (tally_faults c.args.b.now)
    c.as_slice.result.now c.as_slice-2.result.now (
      outlet [] (g.A.Write.contents (tally_lent c.write_heads.new.a)) (tally_faults c.write_heads.new.a),
      outlet [] (g.B.Write.contents (tally_lent c.write_heads.new.b)) (tally_faults c.write_heads.new.b),
    ) (c.as_slice.ensures.value ∙ heads.0) (c.as_slice-2.ensures.value ∙ heads.1) c.in-Err-write_heads.ensures

pub returns-clause-taps : goal.returns-clause-taps
returns-clause-taps g c =
    let heads = rw (c.format_of-format.ensures, c.node_a.ensures, c.node_b.ensures) at c.in-Ok-heads.ensures in
    let passes = c.in_default-write_heads.ensures in
    let h = line_begun _ _ (g.W.Read.remaining (tally_lent c.open.new.reader))
    (held (g.A.Write.contents (tally_lent c.args.a.now)) (g.B.Write.contents (tally_lent c.args.b.now))) c.in-Ok.reader c.in-Ok.ensures.opens
    (spelled c.args.turns.now) (held (g.A.Write.contents (tally_lent c.write_heads.new.a)) (g.B.Write.contents (tally_lent c.write_heads.new.b)))
    c.in-Ok-new.sides.a c.in-Ok-new.sides.b c.as_slice.result.now c.as_slice-2.result.now c.in-Ok-new.ensures.a c.in-Ok-new.ensures.b
    (c.as_slice.ensures.value ∙ heads.0) (c.as_slice-2.ensures.value ∙ heads.1) passes.0.over passes.1.over in
    (c.tap_rest.ensures.taps _ _ _ h).0

pub returns-clause-reads : goal.returns-clause-reads
returns-clause-reads g c =
    let heads = rw (c.format_of-format.ensures, c.node_a.ensures, c.node_b.ensures) at c.in-Ok-heads.ensures in
    let passes = c.in_default-write_heads.ensures in
    let h = line_begun _ _ (g.W.Read.remaining (tally_lent c.open.new.reader))
    (held (g.A.Write.contents (tally_lent c.args.a.now)) (g.B.Write.contents (tally_lent c.args.b.now))) c.in-Ok.reader c.in-Ok.ensures.opens
    (spelled c.args.turns.now) (held (g.A.Write.contents (tally_lent c.write_heads.new.a)) (g.B.Write.contents (tally_lent c.write_heads.new.b)))
    c.in-Ok-new.sides.a c.in-Ok-new.sides.b c.as_slice.result.now c.as_slice-2.result.now c.in-Ok-new.ensures.a c.in-Ok-new.ensures.b
    (c.as_slice.ensures.value ∙ heads.0) (c.as_slice-2.ensures.value ∙ heads.1) passes.0.over passes.1.over in
    subst (λ (n : ℕ). CountsReadsOf c.tap_rest.result n (tally_faults c.tap_rest.new.wire)) c.in-Ok.ensures.reads (c.tap_rest.ensures.taps _ _ _ h).1

pub returns-clause-writes_a : goal.returns-clause-writes_a
returns-clause-writes_a g c =
    subst (λ (n : ℕ). CountsWritesOf of_side.A c.tap_rest.result n (tally_faults c.tap_rest.new.a)) c.in_default-write_heads.ensures.0.faults
    c.tap_rest.ensures.writes_a

pub returns-clause-writes_b : goal.returns-clause-writes_b
returns-clause-writes_b g c =
    subst (λ (n : ℕ). CountsWritesOf of_side.B c.tap_rest.result n (tally_faults c.tap_rest.new.b)) c.in_default-write_heads.ensures.1.faults
    c.tap_rest.ensures.writes_b
