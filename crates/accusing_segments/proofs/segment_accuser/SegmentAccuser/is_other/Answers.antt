use Rattle.accusing_segments.proofs.Prelude.{Option, sym, ap, ◌∙◌, NspValue, shown, is_changed_in, seen}
use Rattle.accusing_segments.proofs.Known.{segment_found}
use Rattle.accusing_segments.proofs.segment_accuser.SegmentAccuser.is_other.Goals as goal

pub returns-in-DataSegment : goal.returns-in-DataSegment
returns-in-DataSegment c =
    c.carries_other.ensures ∙ ap (λ (o : Option NspValue). is_changed_in (seen c.args.self.now) (shown c.args.self.now.noted) o)
    (sym (segment_found c.message_in.result c.in-Some.message c.in-DataSegment.segment c.args.unit.now c.message_in.ensures c.in-Some.is
    c.in-DataSegment.is))
