use Rattle.std.proofs.Common.{Err, Ok, ◌+◌, ◌∙◌, ap, arith, refl, sym}
use Rattle.wire_base.specs.Tally.{tally_faults, tally_lent}
use Rattle.capture.specs.Lines.{to_come}
use Rattle.pair_player.specs.inner.Beginning.{fault_of}
use Rattle.pair_player.specs.inner.Making.{standing}
use Rattle.pair_player.specs.Playing.{held}
use Rattle.pair_player.specs.Step.{line_with}
use Rattle.capture.specs.inner.Outlets.{outlet}
use Rattle.pair_player.proofs.CutLaws.{lines_at_fault, lines_on, lines_stopped}
use Rattle.pair_player.proofs.EndLaws.{at_end, at_fault, ended, stopped}
use Rattle.pair_player.proofs.PlayLaws.{fails, held_back, moved_on, step_on, under_way}
use Rattle.pair_player.proofs.playing.play_steps.Goals as goal

pub loop-steps-init : goal.loop-steps-init
loop-steps-init g c =
    let begun = c.args.begun.now in (
      λ text is. under_way text (g.R.Read.remaining (tally_lent c.args.script.now))
          (held (g.A.Write.contents (tally_lent c.args.a.now)) (g.B.Write.contents (tally_lent c.args.b.now)))
          begun.lines (standing begun.ends begun.texts.a.items begun.texts.b.items begun.texts.three begun.texts.is_begun) is,
      c.requires.0,
      c.requires.1,
      omega arith,
      refl,
      refl,
      refl,
      refl,
      λ holds none. refl,
    )

pub returns-in-Err-write_full-clause-plays : goal.returns-in-Err-write_full-clause-plays
returns-in-Err-write_full-clause-plays g c text is =
    let h = c.loop-steps.invariant.0 text is in
    let after = to_come c.advance.new.self.unread (g.R.Read.remaining (tally_lent c.advance.new.reader)) in
    let advances = rw c.in-Ok-Some.field-0-is at c.in-Ok-Some.ensures.advances c.loop-steps.invariant.1 in
    let step = line_with c.in-Ok-Some.line c.advance.new.self.bytes in
    let on = step_on _ _ _ h step c.advance.new.self after
    (standing c.make_step.new.ends c.make_step.new.texts.a.items c.make_step.new.texts.b.items c.make_step.new.texts.three
    c.make_step.new.texts.is_begun) advances
    (sym (c.is_too_late_for.ensures c.advance.new.self.bytes) ∙ c.if-is_too_late_for.false)
    c.in-Ok.ensures.step in
    fails _ _ _ on c.in-Err-write_full.side (tally_faults c.loop-steps.a) (tally_faults c.loop-steps.b) (
      outlet c.write_full.new.self.a.items (g.A.Write.contents (tally_lent c.write_full.new.a)) (tally_faults c.write_full.new.a),
      outlet c.write_full.new.self.b.items (g.B.Write.contents (tally_lent c.write_full.new.b)) (tally_faults c.write_full.new.b),
    ) c.in-Err-write_full.ensures.writes

pub returns-in-Err-make_step-clause-plays : goal.returns-in-Err-make_step-clause-plays
returns-in-Err-make_step-clause-plays g c text is =
    let h = c.loop-steps.invariant.0 text is in
    let after = to_come c.advance.new.self.unread (g.R.Read.remaining (tally_lent c.advance.new.reader)) in
    let advances = rw c.in-Ok-Some.field-0-is at c.in-Ok-Some.ensures.advances c.loop-steps.invariant.1 in
    let step = line_with c.in-Ok-Some.line c.advance.new.self.bytes in
    stopped _ _ _ h step c.advance.new.self after (standing c.make_step.new.ends c.make_step.new.texts.a.items c.make_step.new.texts.b.items
    c.make_step.new.texts.three c.make_step.new.texts.is_begun)
    c.in-Err-make_step.stop c.end.result
    (tally_faults c.loop-steps.a) (tally_faults c.loop-steps.b) (
      outlet c.end.new.texts.a.items (g.A.Write.contents (tally_lent c.end.new.a)) (tally_faults c.end.new.a),
      outlet c.end.new.texts.b.items (g.B.Write.contents (tally_lent c.end.new.b)) (tally_faults c.end.new.b),
    ) advances c.in-Err-make_step.ensures.step (rw c.stop_fault.ensures at c.end.ensures)

pub returns-in-Ok-None-clause-plays : goal.returns-in-Ok-None-clause-plays
returns-in-Ok-None-clause-plays g c text is =
    let h = c.loop-steps.invariant.0 text is in
    let after = to_come c.advance.new.self.unread (g.R.Read.remaining (tally_lent c.advance.new.reader)) in
    let advances = rw c.in-Ok-None.field-0-is at c.in-Ok-None.ensures.advances c.loop-steps.invariant.1 in
    ended _ _ _ h (Ok (record { steps = c.loop-steps.steps })) c.end-in-Ok-None.result (tally_faults c.loop-steps.a) (tally_faults c.loop-steps.b) (
      outlet c.end-in-Ok-None.new.texts.a.items (g.A.Write.contents (tally_lent c.end-in-Ok-None.new.a)) (tally_faults c.end-in-Ok-None.new.a),
      outlet c.end-in-Ok-None.new.texts.b.items (g.B.Write.contents (tally_lent c.end-in-Ok-None.new.b)) (tally_faults c.end-in-Ok-None.new.b),
    ) (at_end _ _ _ h c.advance.new.self after advances) c.end-in-Ok-None.ensures

pub returns-in-Err-clause-plays : goal.returns-in-Err-clause-plays
returns-in-Err-clause-plays g c text is =
    let h = c.loop-steps.invariant.0 text is in
    let fault = c.in-Err.fault in
    let after = to_come c.advance.new.self.unread (g.R.Read.remaining (tally_lent c.advance.new.reader)) in
    let advances = c.in-Err.ensures.advances c.loop-steps.invariant.1 in
    ended _ _ _ h (Err (fault_of fault)) c.end-in-Err.result (tally_faults c.loop-steps.a) (tally_faults c.loop-steps.b) (
      outlet c.end-in-Err.new.texts.a.items (g.A.Write.contents (tally_lent c.end-in-Err.new.a))
          (tally_faults c.end-in-Err.new.a),
      outlet c.end-in-Err.new.texts.b.items (g.B.Write.contents (tally_lent c.end-in-Err.new.b))
          (tally_faults c.end-in-Err.new.b),
    )
    (at_fault _ _ _ h c.advance.new.self after fault advances (λ same. c.in-Err.ensures.memory (ap Err same)))
    (rw c.play_fault.ensures at c.end-in-Err.ensures)

pub loop-steps-preserved : goal.loop-steps-preserved
loop-steps-preserved g c =
    let after = to_come c.advance.new.self.unread (g.R.Read.remaining (tally_lent c.advance.new.reader)) in
    let advances = rw c.in-Ok-Some.field-0-is at c.in-Ok-Some.ensures.advances c.loop-steps.invariant.1 in
    let step = line_with c.in-Ok-Some.line c.advance.new.self.bytes in
    let passes = c.in_default.ensures.writes in (
      λ text is.
          let h = c.loop-steps.invariant.0 text is in
          let on = step_on _ _ _ h step c.advance.new.self after
          (standing c.make_step.new.ends c.make_step.new.texts.a.items c.make_step.new.texts.b.items c.make_step.new.texts.three
          c.make_step.new.texts.is_begun) advances
          (sym (c.is_too_late_for.ensures c.advance.new.self.bytes) ∙ c.if-is_too_late_for.false)
          c.in-Ok.ensures.step in
          moved_on _ _ _ on (held (g.A.Write.contents (tally_lent c.write_full.new.a)) (g.B.Write.contents (tally_lent c.write_full.new.b)))
          c.write_full.new.self.a.items c.write_full.new.self.b.items c.write_full.new.self.three c.write_full.new.self.is_begun
          passes.0.over passes.1.over
          c.write_full.ensures.three c.write_full.ensures.begun c.write_full.ensures.waits_a c.write_full.ensures.waits_b,
      advances.3,
      advances.2 ∙ ap (λ n. n + 1) c.loop-steps.invariant.2,
      (let few = advances.1 in let counted = c.loop-steps.invariant.2 in omega arith),
      c.in-Ok-Some.ensures.reads ∙ c.loop-steps.invariant.4,
      passes.0.faults ∙ c.loop-steps.invariant.5,
      passes.1.faults ∙ c.loop-steps.invariant.6,
      c.write_full.ensures.streams ∙ c.make_step.ensures.streams ∙ c.loop-steps.invariant.7,
      λ holds none. held_back _ _ _ _ _ _ c.in-Ok.ensures.step (c.make_step.ensures.streams ∙ c.loop-steps.invariant.7 ∙ holds)
          (sym c.write_full.ensures.three ∙ none) c.write_full.ensures.holds (λ before. c.loop-steps.invariant.8 holds before),
    )

pub returns-in-Err-make_step-clause-lines : goal.returns-in-Err-make_step-clause-lines
returns-in-Err-make_step-clause-lines g c text is =
    lines_on text _ _ _ _ c.end.result _ _ (lines_stopped text _ _ _ (c.loop-steps.steps + 2) c.in-Err-make_step.stop)
    (rw c.stop_fault.ensures at c.end.ensures)

pub returns-in-Err-clause-lines : goal.returns-in-Err-clause-lines
returns-in-Err-clause-lines g c text is =
    let h = c.loop-steps.invariant.0 text is in
    lines_at_fault _ (g.R.Read.remaining (tally_lent c.advance.new.reader)) _ _ h c.in-Err.fault
    c.end-in-Err.result (tally_faults c.loop-steps.a) (tally_faults c.loop-steps.b) (
      outlet c.end-in-Err.new.texts.a.items (g.A.Write.contents (tally_lent c.end-in-Err.new.a))
          (tally_faults c.end-in-Err.new.a),
      outlet c.end-in-Err.new.texts.b.items (g.B.Write.contents (tally_lent c.end-in-Err.new.b))
          (tally_faults c.end-in-Err.new.b),
    ) (c.in-Err.ensures.advances c.loop-steps.invariant.1).0 (c.in-Err.ensures.cut c.loop-steps.invariant.1)
    (rw c.play_fault.ensures at c.end-in-Err.ensures)
