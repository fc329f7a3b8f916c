use Rattle.std.proofs.Common.{List, subst, ap, ◌∙◌}
use Rattle.dna_packet.specs.Nsp.{DataSegment, segment_view, view}
use Rattle.dna_packet.specs.declared.ack_word.AckWord.{AckWord}
use Rattle.dna_links.specs.Links.{changed}
use Rattle.dna_links.specs.WireSegments.{takes_acks}
use Rattle.nsp_link.specs.Kinds.{queues_of}
use Rattle.nsp_link.specs.Phases.{arrival_takes_memory}
use Rattle.nsp_link.specs.inner.Rows.{runs}
use Rattle.nsp_link.specs.inner.Taken.{FitsLink}
use Rattle.nsp_link.proofs.Acted.{becomes_there, held_memory}
use Rattle.nsp_link.proofs.links.Links.take_at.Goals as goal

pub returns-in-DataSegment-clause-memory : goal.returns-in-DataSegment-clause-memory
returns-in-DataSegment-clause-memory g c =
    let s = c.args.self.now in
    let segment = segment_view c.in-DataSegment.segment in
    let fits = subst (λ m. FitsLink (view m) (arrival_takes_memory s (view m)) c.args.number s) c.in-DataSegment.is c.requires.fits in
    rw c.in-DataSegment.is
    (held_memory c.args.number s c.requires.within segment (arrival_takes_memory s (DataSegment segment)) fits.1 c.take_segment_at.result
    c.take_segment_at.ensures.held)

pub returns-in-DataAck-clause-ok : goal.returns-in-DataAck-clause-ok
returns-in-DataAck-clause-ok g c =
    rw c.in-DataAck.is
    (becomes_there c.args.number c.args.self.now _ c.requires.within c.take_acks_at.new.self (λ link there.
    c.take_acks_at.ensures link there
    ∙ ap (λ (words : List AckWord). changed c.args.number (runs (queues_of g.row.QUEUES) (takes_acks words tt) link) c.args.self.now)
    c.deref.ensures.0))

pub returns-in-LinkService-clause-ok : goal.returns-in-LinkService-clause-ok
returns-in-LinkService-clause-ok g c =
    rw c.in-LinkService.is (becomes_there c.args.number c.args.self.now _ c.requires.within c.run_at.new.self c.run_at.ensures)

pub returns-in-OtherDataAck-clause-ok : goal.returns-in-OtherDataAck-clause-ok
returns-in-OtherDataAck-clause-ok g c =
    rw c.in-OtherDataAck.is
    (becomes_there c.args.number c.args.self.now _ c.requires.within c.run_at-in-OtherDataAck.new.self c.run_at-in-OtherDataAck.ensures)

pub returns-in-ConnectConfirm-clause-ok : goal.returns-in-ConnectConfirm-clause-ok
returns-in-ConnectConfirm-clause-ok g c =
    rw c.in-ConnectConfirm.is (becomes_there c.args.number c.args.self.now _ c.requires.within c.confirm_at.new.self c.confirm_at.ensures)

pub returns-in-DisconnectInitiate-clause-ok : goal.returns-in-DisconnectInitiate-clause-ok
returns-in-DisconnectInitiate-clause-ok g c =
    rw c.in-DisconnectInitiate.is (becomes_there c.args.number c.args.self.now _ c.requires.within c.end_at.new.self c.end_at.ensures)

pub returns-in-DisconnectConfirm-clause-ok : goal.returns-in-DisconnectConfirm-clause-ok
returns-in-DisconnectConfirm-clause-ok g c =
    rw c.in-DisconnectConfirm.is
    (becomes_there c.args.number c.args.self.now _ c.requires.within c.end_at-in-DisconnectConfirm.new.self c.end_at-in-DisconnectConfirm.ensures)
