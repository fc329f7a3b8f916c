use Rattle.accusing_segments.proofs.Prelude.{refl, view}
use Rattle.dna_packet.specs.declared.nsp.Nsp.TheVariants as rust
use Rattle.accusing_segments.proofs.Known.{message_found, room_told}
use Rattle.accusing_segments.proofs.segment_accuser.SegmentAccuser.hears.Goals as goal

pub returns-in-ConnectInitiate-clause-rooms : goal.returns-in-ConnectInitiate-clause-rooms
returns-in-ConnectInitiate-clause-rooms c = λ o f b w.
    room_told c.is_called.result c.args.self.now.rooms c.args.self.now.rooms c.is_called.new.self.rooms c.args.unit.now
    (view (rust.ConnectInitiate c.in-ConnectInitiate.m))
    (message_found c.message_in.result c.in-Some.message (rust.ConnectInitiate c.in-ConnectInitiate.m) c.args.unit.now c.message_in.ensures
    c.in-Some.is c.in-ConnectInitiate.is)
    refl o f b w (c.is_called.ensures.rooms o f b w)

pub returns-in-ConnectConfirm-clause-rooms : goal.returns-in-ConnectConfirm-clause-rooms
returns-in-ConnectConfirm-clause-rooms c = λ o f b w.
    room_told c.is_called-in-ConnectConfirm.result c.args.self.now.rooms c.args.self.now.rooms c.is_called-in-ConnectConfirm.new.self.rooms
    c.args.unit.now
    (view (rust.ConnectConfirm c.in-ConnectConfirm.m))
    (message_found c.message_in.result c.in-Some.message (rust.ConnectConfirm c.in-ConnectConfirm.m) c.args.unit.now c.message_in.ensures
    c.in-Some.is c.in-ConnectConfirm.is)
    refl o f b w (c.is_called-in-ConnectConfirm.ensures.rooms o f b w)
