use Rattle.accusing_segments.proofs.Prelude.{Bool, sym, ap, ◌∙◌, ◌||◌, or_left, fits}
use Rattle.accusing_segments.proofs.segment_accuser.SegmentAccuser.is_short.Goals as goal

pub returns-then-has_room : goal.returns-then-has_room
returns-then-has_room c =
    sym (or_left (fits c.args.self.now.rooms 0 c.args.far c.args.bytes 0) _ (sym c.has_room.ensures ∙ c.if-has_room.true))

pub returns : goal.returns
returns c =
    c.has_room-2.ensures ∙ sym (ap (λ (b : Bool). b || fits c.args.self.now.rooms c.args.own c.args.far c.args.bytes 0)
    (sym c.has_room.ensures ∙ c.if-has_room.false))
