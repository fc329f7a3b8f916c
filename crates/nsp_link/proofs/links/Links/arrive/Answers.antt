use Rattle.std.proofs.Common.{not, eqb}
use Rattle.dna_packet.specs.Nsp.{view}
use Rattle.nsp_link.specs.Kinds.{queues_of}
use Rattle.nsp_link.specs.PartnerRules.{partner_rule}
use Rattle.nsp_link.proofs.FailedArrival.{arrival_fits, arrival_makes}
use Rattle.nsp_link.proofs.links.Links.arrive.Goals as goal

pub take-requires-clause-fits : goal.take-requires-clause-fits
take-requires-clause-fits g c =
    arrival_fits (queues_of g.row.QUEUES) (partner_rule (not (eqb g.row.OF_PAIR 0))) c.args.self.now (view c.args.message.now) c.args.tag
    c.args.permit c.requires.permit

pub returns-clause-ok : goal.returns-clause-ok
returns-clause-ok g c =
    arrival_makes (queues_of g.row.QUEUES) (partner_rule (not (eqb g.row.OF_PAIR 0))) c.args.self.now (view c.args.message.now) c.args.tag
    c.args.permit c.requires.permit c.take.result c.take.new.self c.take.ensures.ok
