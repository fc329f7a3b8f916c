use Rattle.std.proofs.Common.{◌≡◌, length, [], ◌∷◌, ◌++◌, List, ℕ, refl, ap, ◌∙◌, arith, inl, inr}
use Rattle.capture_record.specs.declared.record.Record.{Record}
use Rattle.wire_base.specs.Tally.{tally_lent}
use Rattle.capture_record.specs.Entries.{record_with}
use Rattle.capture.specs.Lines.{to_come}
use Rattle.capture.specs.SoFar.{TheEnd, so_far}
use Rattle.leaving_out.specs.About.{about}
use Rattle.leaving_out.proofs.Walk.{at_end, at_next, at_start, by_then, next_read}
use Rattle.leaving_out.proofs.located.address_at.Goals as goal

pub loop-count-init : goal.loop-count-init
loop-count-init g c =
    ([], at_start _ _ c.in_ok-capture.capture c.in_ok-capture.ensures.opens, omega arith, c.in_ok-capture.ensures.reads)

pub returns-then-count-place-clause-address : goal.returns-then-count-place-clause-address
returns-then-count-place-clause-address g c =
    let rs = c.loop-count.invariant.0 in
    let h = c.loop-count.invariant.1 in
    let same = h.count_is in
    let gives = rw c.in-Ok-Some.field-0-is at c.in-Ok-Some.ensures.gives h.reading in
    let r : Record = record_with c.in-Ok-Some.entry c.advance.new.self.bytes in
    let come = to_come c.loop-count.capture.unread (g.R.Read.remaining (tally_lent c.loop-count.reader)) in
    let after = to_come c.advance.new.self.unread (g.R.Read.remaining (tally_lent c.advance.new.reader)) in
    let at : length rs ≡ c.args.place = omega (arith, c.if-count-place.true) in
    inl (
      by_then c.loop-count.capture come rs,
      r,
      after,
      next_read _ _ _ _ rs h c.advance.new.self after r gives,
      at,
      c.about.ensures ∙ ap (λ (b : List ℕ). about c.args.side (record_with c.in-Ok-Some.entry b)) c.bytes.ensures,
    )

pub returns-in-Ok-None-clause-address : goal.returns-in-Ok-None-clause-address
returns-in-Ok-None-clause-address g c =
    let rs = c.loop-count.invariant.0 in
    let h = c.loop-count.invariant.1 in
    let same = h.count_is in
    let gives = rw c.in-Ok-None.field-0-is at c.in-Ok-None.ensures.gives h.reading in
    inr (
      (
        so_far c.loop-count.capture.form c.loop-count.capture.own c.loop-count.capture.peer rs TheEnd,
        at_end _ _ _ _ rs h gives.0,
        inl refl,
        omega (arith, c.loop-count.invariant.2),
      ),
      refl,
    )

pub loop-count-preserved : goal.loop-count-preserved
loop-count-preserved g c =
    let rs = c.loop-count.invariant.0 in
    let h = c.loop-count.invariant.1 in
    let gives = rw c.in-Ok-Some.field-0-is at c.in-Ok-Some.ensures.gives h.reading in
    let r : Record = record_with c.in-Ok-Some.entry c.advance.new.self.bytes in (
      rs ++ r ∷ [],
      at_next _ _ _ _ rs h c.advance.new.self _ r c.advance.ensures.head.0 c.advance.ensures.head.1 gives,
      omega (arith, c.loop-count.invariant.2, c.if-count-place.false),
      c.in-Ok-Some.ensures.reads ∙ c.loop-count.invariant.3,
    )
