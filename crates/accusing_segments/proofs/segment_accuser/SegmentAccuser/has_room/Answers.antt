use Rattle.accusing_segments.proofs.Prelude.{ap, ◌∙◌, Sight, fits}
use Rattle.accusing_segments.proofs.segment_accuser.SegmentAccuser.has_room.Goals as goal

pub returns : goal.returns
returns c = c.has.ensures 0 ∙ ap (λ (s : Sight). fits s.rooms c.args.own c.args.far c.args.bytes 0) c.self.view_is
