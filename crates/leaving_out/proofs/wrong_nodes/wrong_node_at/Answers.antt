use Rattle.std.proofs.Common.{◌≡◌, true, false, [], ◌∷◌, ◌++◌, List, ℕ, refl, sym, ap, ◌∙◌, arith, inl, inr}
use Rattle.capture_record.specs.declared.record.Record.{Record}
use Rattle.wire_base.specs.Tally.{tally_lent}
use Rattle.capture_record.specs.Entries.{record_with}
use Rattle.capture.specs.Lines.{to_come}
use Rattle.capture.specs.SoFar.{TheEnd, so_far}
use Rattle.capture.proofs.SoFarLaws.{All-push}
use Rattle.leaving_out.specs.WrongNodes.{is_wrong_node}
use Rattle.leaving_out.proofs.Walk.{at_end, at_next, at_start, by_then, next_read}
use Rattle.leaving_out.proofs.wrong_nodes.wrong_node_at.Goals as goal

pub loop-place-init : goal.loop-place-init
loop-place-init g c = ([], at_start _ _ c.in_ok-capture.capture c.in_ok-capture.ensures.opens, tt, c.in_ok-capture.ensures.reads)

pub returns-then-is_wrong_node-clause-place : goal.returns-then-is_wrong_node-clause-place
returns-then-is_wrong_node-clause-place g c =
    let rs = c.loop-place.invariant.0 in
    let h = c.loop-place.invariant.1 in
    let gives = rw c.in-Ok-Some.field-0-is at c.in-Ok-Some.ensures.gives h.reading in
    let r : Record = record_with c.in-Ok-Some.entry c.advance.new.self.bytes in
    let come = to_come c.loop-place.capture.unread (g.R.Read.remaining (tally_lent c.loop-place.reader)) in
    let after = to_come c.advance.new.self.unread (g.R.Read.remaining (tally_lent c.advance.new.reader)) in
    let is : is_wrong_node c.args.leaving.now c.args.side r ≡ true =
    sym (c.if-is_wrong_node.ensures
    ∙ ap (λ (b : List ℕ). is_wrong_node c.args.leaving.now c.args.side (record_with c.in-Ok-Some.entry b)) c.bytes.ensures)
    in (
      omega (arith, c.loop-place-test.true),
      (
        by_then c.loop-place.capture come rs,
        r,
        after,
        next_read _ _ _ _ rs h c.advance.new.self after r gives,
        h.count_is,
        is,
        c.loop-place.invariant.2,
      ),
    )

pub returns-in-Ok-None-clause-place : goal.returns-in-Ok-None-clause-place
returns-in-Ok-None-clause-place g c =
    let rs = c.loop-place.invariant.0 in
    let h = c.loop-place.invariant.1 in
    let gives = rw c.in-Ok-None.field-0-is at c.in-Ok-None.ensures.gives h.reading in (
      so_far c.loop-place.capture.form c.loop-place.capture.own c.loop-place.capture.peer rs TheEnd,
      at_end _ _ _ _ rs h gives.0,
      c.loop-place.invariant.2,
      inr (inl refl),
    )

pub loop-place-preserved : goal.loop-place-preserved
loop-place-preserved g c =
    let rs = c.loop-place.invariant.0 in
    let h = c.loop-place.invariant.1 in
    let gives = rw c.in-Ok-Some.field-0-is at c.in-Ok-Some.ensures.gives h.reading in
    let r : Record = record_with c.in-Ok-Some.entry c.advance.new.self.bytes in
    let is : is_wrong_node c.args.leaving.now c.args.side r ≡ false =
    sym (c.if-is_wrong_node.ensures
    ∙ ap (λ (b : List ℕ). is_wrong_node c.args.leaving.now c.args.side (record_with c.in-Ok-Some.entry b)) c.bytes.ensures)
    in (
      rs ++ r ∷ [],
      at_next _ _ _ _ rs h c.advance.new.self _ r c.advance.ensures.head.0 c.advance.ensures.head.1 gives,
      All-push (λ (s : Record). is_wrong_node c.args.leaving.now c.args.side s ≡ false) rs r c.loop-place.invariant.2 is,
      c.in-Ok-Some.ensures.reads ∙ c.loop-place.invariant.3,
    )
