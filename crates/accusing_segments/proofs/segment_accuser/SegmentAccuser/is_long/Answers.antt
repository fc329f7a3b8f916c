use Rattle.accusing_segments.proofs.Prelude.{Option, not, sym, ap, ◌∙◌, NspValue, is_long_in, seen}
use Rattle.accusing_segments.proofs.Known.{segment_found}
use Rattle.accusing_segments.proofs.segment_accuser.SegmentAccuser.is_long.Goals as goal

pub returns-in-DataSegment : goal.returns-in-DataSegment
returns-in-DataSegment c =
    ap not c.is_in_room.ensures ∙ ap (λ (o : Option NspValue). is_long_in (seen c.args.self.now) o)
    (sym (segment_found c.message_in.result c.in-Some.message c.in-DataSegment.segment c.args.unit.now c.message_in.ensures c.in-Some.is
    c.in-DataSegment.is))
