use Rattle.dna_packet.specs.Nsp.{view}
use Rattle.nsp_link.specs.Kinds.{queues_of}
use Rattle.nsp_link.proofs.FailedSending.{permit_fits}
use Rattle.nsp_link.proofs.Permitted.{made_as}
use Rattle.nsp_link.proofs.links.Links.send.Goals as goal

pub make-requires : goal.make-requires
make-requires g c = permit_fits (queues_of g.row.QUEUES) c.args.self.now (view c.args.message.now) c.args.permit c.requires

pub returns-clause-ok : goal.returns-clause-ok
returns-clause-ok g c =
    made_as (queues_of g.row.QUEUES) c.args.self.now (view c.args.message.now) c.args.permit c.requires
    c.make.result c.make.new.self c.make.ensures.ok
