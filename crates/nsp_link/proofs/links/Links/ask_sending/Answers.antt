use Rattle.dna_packet.specs.Nsp.{view}
use Rattle.nsp_link.specs.Kinds.{queues_of}
use Rattle.nsp_link.proofs.FailedSending.{asked_allows, asked_goes, asked_permits, asked_refuses}
use Rattle.nsp_link.proofs.links.Links.ask_sending.Goals as goal

pub returns-clause-permit : goal.returns-clause-permit
returns-clause-permit g c =
    asked_permits (queues_of g.row.QUEUES) c.args.self.now (record { dst = c.args.dst; src = c.args.src; message = view c.args.message.now })
    c.ask_packet.result c.ask_packet.ensures

pub returns-clause-allowed : goal.returns-clause-allowed
returns-clause-allowed g c =
    asked_allows (queues_of g.row.QUEUES) c.args.self.now (record { dst = c.args.dst; src = c.args.src; message = view c.args.message.now })
    c.ask_packet.result c.ask_packet.ensures

pub returns-clause-same : goal.returns-clause-same
returns-clause-same g c =
    asked_goes (queues_of g.row.QUEUES) c.args.self.now (record { dst = c.args.dst; src = c.args.src; message = view c.args.message.now })
    c.ask_packet.result c.ask_packet.ensures

pub returns-clause-refused : goal.returns-clause-refused
returns-clause-refused g c =
    asked_refuses (queues_of g.row.QUEUES) c.args.self.now (record { dst = c.args.dst; src = c.args.src; message = view c.args.message.now })
    c.ask_packet.result c.ask_packet.ensures
