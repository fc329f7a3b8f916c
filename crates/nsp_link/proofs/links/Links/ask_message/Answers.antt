use Rattle.std.proofs.Common.{Ok, ◌∙◌}
use Rattle.dna_links.specs.declared.port.LinkTest.TheVariants.{TheLink, OpenedAt}
use Rattle.dna_links.specs.declared.port.Phase.TheVariants.{Calling, Running}
use Rattle.nsp_link.specs.Kinds.{queues_of}
use Rattle.nsp_link.specs.declared.permit.LinkSendPermit.TheVariants.{OfLink}
use Rattle.nsp_link.proofs.FailedTurn.{turn_same}
use Rattle.nsp_link.proofs.links.Links.ask_message.Goals as goal

pub returns-in-DataSegment : goal.returns-in-DataSegment
returns-in-DataSegment g c =
    let s = c.in-DataSegment.segment in
    rw c.in-DataSegment.is
    (c.ask_segment.ensures ∙ turn_same (queues_of g.row.QUEUES) (TheLink s.srcaddr s.dstaddr) Running _ c.args.self.now)

pub returns-in-DataAck : goal.returns-in-DataAck
returns-in-DataAck g c =
    let m = c.in-DataAck.message in
    rw c.in-DataAck.is
    (c.ask_data_ack.ensures ∙ turn_same (queues_of g.row.QUEUES) (TheLink m.srcaddr m.dstaddr) Running _ c.args.self.now)

pub returns-in-ConnectInitiate : goal.returns-in-ConnectInitiate
returns-in-ConnectInitiate g c =
    let m = c.in-ConnectInitiate.message in
    rw c.in-ConnectInitiate.is
    (c.ask_of_link.ensures ∙ turn_same (queues_of g.row.QUEUES) (OpenedAt m.srcaddr) Calling (λ number link. Ok (OfLink number)) c.args.self.now)
