use Rattle.std.proofs.Common.{ℕ, sym, ap, ◌∙◌, ◌+◌, drop, arith}
use Rattle.dna_links.specs.Segmentation.{in_whole_messages}
use Rattle.link_segments.proofs.Arrived.{kept_or, whole_end, whole_on}
use Rattle.link_segments.proofs.received.whole_messages.Goals as goal
use Rattle.link_segments.proofs.received.whole_messages.Goals.{then-ends, else-ends}

pub loop-place-preserved : goal.loop-place-preserved
loop-place-preserved c =
    let items = c.args.pieces.now.items in
    let i = c.loop-place.place in
    elim c.if-ends.branch [
      | then-ends w ↦ record {
        kept = omega arith;
        whole = c.loop-place.invariant.whole
            ∙ whole_end c.loop-place.kept i items c.in-Some.piece.now (sym c.in-Some.ensures) (sym c.ends.ensures ∙ w.if-ends.true)
            ∙ ap (λ (k : ℕ). kept_or k (i + 1) (in_whole_messages (drop (i + 1) items))) (sym w.kept-is);
      }
      | else-ends w ↦ record {
        kept = omega arith;
        whole = c.loop-place.invariant.whole
            ∙ whole_on c.loop-place.kept i items c.in-Some.piece.now (sym c.in-Some.ensures) (sym c.ends.ensures ∙ w.if-ends.false)
            ∙ ap (λ (k : ℕ). kept_or k (i + 1) (in_whole_messages (drop (i + 1) items))) (sym w.kept-is);
      }
    ]
