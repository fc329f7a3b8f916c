use Rattle.accusing_segments.proofs.Prelude.{ℕ, sym, ap₂, ◌∙◌, segment_view, has, seen}
use Rattle.accusing_segments.proofs.Known.{right_by_next, right_else}
use Rattle.accusing_segments.proofs.segment_accuser.SegmentAccuser.is_right.Goals as goal

pub returns-then-sent : goal.returns-then-sent
returns-then-sent c =
    right_by_next (seen c.args.self.now) (segment_view c.args.segment.now) (sym c.is_first.ensures ∙ c.if-is_first.false)
    (ap₂ (λ (n w : ℕ). has c.args.self.now.ends c.args.segment.now.srcaddr c.args.segment.now.dstaddr n w) (sym c.before-2.ensures)
    (sym c.bit.ensures)
    ∙ sym c.sent.ensures ∙ c.if-sent.true)

pub returns : goal.returns
returns c =
    right_else (seen c.args.self.now) (segment_view c.args.segment.now) (sym c.is_first.ensures ∙ c.if-is_first.false)
    (ap₂ (λ (n w : ℕ). has c.args.self.now.ends c.args.segment.now.srcaddr c.args.segment.now.dstaddr n w) (sym c.before-2.ensures)
    (sym c.bit.ensures)
    ∙ sym c.sent.ensures ∙ c.if-sent.false) c.is_acknowledged.result c.is_acknowledged.ensures
