use Rattle.accusing_segments.proofs.Prelude.{ap, ◌∙◌, ◌||◌, Sight, fits, is_room}
use Rattle.accusing_segments.proofs.NotedAfter.{on_any}
use Rattle.accusing_segments.proofs.segment_accuser.SegmentAccuser.is_called.Goals as goal

pub returns-clause-rooms : goal.returns-clause-rooms
returns-clause-rooms c = λ o f b w.
    on_any c.call.result _ (c.in_ok-tell.ensures o f b w
    ∙ ap (λ (s : Sight). is_room c.args.own c.args.far c.args.segsize o f b w || fits s.rooms o f b w) c.self.view_is)
