use Rattle.std.proofs.Common.{[], ◌∷◌, ◌++◌, List, ℕ, refl, sym, ap, ◌∙◌, append-nil, inl, inr}
use Rattle.capture.specs.declared.format.Format.TheVariants.{Three}
use Rattle.capture.specs.declared.hint.HintForm.TheVariants.{Wide}
use Rattle.capture_record.specs.declared.record.Record.{Record}
use Rattle.capture_record.specs.Entries.{record_with}
use Rattle.capture.specs.SoFar.{TheEnd, so_far}
use Rattle.capture.specs.Text.{head_line, record_line}
use Rattle.leaving_out.specs.declared.leaving.Head.{Head}
use Rattle.leaving_out.specs.Fitted.{head_fitted, record_fitted}
use Rattle.leaving_out.specs.Texts.{departing}
use Rattle.leaving_out.proofs.FittedKept.{text_more}
use Rattle.leaving_out.proofs.Walk.{at_departure, at_end, at_next, at_start, by_then}
use Rattle.leaving_out.proofs.fitting.fitted.Goals as goal

pub loop-init : goal.loop-init
loop-init g c =
    let capture = c.in_ok-capture.capture in
    let head : Head = head_fitted c.args.leaving.now c.args.kept c.args.side in (
      [],
      at_start _ _ capture c.in_ok-capture.ensures.opens,
      c.in-Ok.ensures
          ∙ ap (λ (x : List ℕ). x ++ head_line Three c.head_fitted-head.result.own c.head_fitted-head.result.peer) c.new-text.ensures.items
          ∙ ap (λ (x : Head). head_line Three x.own x.peer) c.head_fitted-head.ensures ∙ sym (append-nil (head_line Three head.own head.peer)),
      c.in_ok-capture.ensures.reads,
    )

pub returns-in-Ok-None-clause-text : goal.returns-in-Ok-None-clause-text
returns-in-Ok-None-clause-text g c =
    let rs = c.loop.invariant.0 in
    let h = c.loop.invariant.1 in
    let gives = rw c.in-Ok-None.field-0-is at c.in-Ok-None.ensures.gives h.reading in
    (so_far c.loop.capture.form c.loop.capture.own c.loop.capture.peer rs TheEnd, at_end _ _ _ _ rs h gives.0, inl (refl, c.loop.invariant.2))

pub returns-in-Err-Departs-clause-text : goal.returns-in-Err-Departs-clause-text
returns-in-Err-Departs-clause-text g c =
    let rs = c.loop.invariant.0 in
    let h = c.loop.invariant.1 in
    let gives = rw c.in-Err-Departs.field-0-is at c.in-Err-Departs.ensures.gives h.reading in (
      by_then c.loop.capture _ rs,
      h.read,
      inr (
        c.in-Err-Departs.kind,
        at_departure _ _ _ _ rs h c.in-Err-Departs.kind _ gives.0,
        (rw c.in-Err-Departs.field-0-is at c.in-Ok-put_departure.ensures)
            ∙ ap (λ (x : List ℕ). x ++ departing c.in-Err-Departs.kind) c.loop.invariant.2,
      ),
    )

pub loop-preserved : goal.loop-preserved
loop-preserved g c =
    let rs = c.loop.invariant.0 in
    let h = c.loop.invariant.1 in
    let gives = rw c.in-Ok-Some.field-0-is at c.in-Ok-Some.ensures.gives h.reading in
    let leaving = c.args.leaving.now in
    let head : Head = head_fitted leaving c.args.kept c.args.side in
    let r : Record = record_with c.in-Ok-Some.entry c.advance.new.self.bytes in (
      rs ++ r ∷ [],
      at_next _ _ _ _ rs h c.advance.new.self _ r c.advance.ensures.head.0 c.advance.ensures.head.1 gives,
      c.in-Ok-put.ensures
          ∙ ap (λ (b : List ℕ).
          c.loop.text.items ++ record_line Wide (record_fitted leaving c.args.kept c.args.side (record_with c.in-Ok-Some.entry b)))
          c.bytes.ensures
          ∙ ap (λ (x : List ℕ). x ++ record_line Wide (record_fitted leaving c.args.kept c.args.side r)) c.loop.invariant.2
          ∙ sym (text_more leaving c.args.kept c.args.side head.own head.peer rs r),
      c.in-Ok-Some.ensures.reads ∙ c.loop.invariant.3,
    )
