use Rattle.std.proofs.Common.{not, eqb}
use Rattle.dna_packet.specs.Nsp.{view}
use Rattle.nsp_link.specs.PartnerRules.{partner_rule}
use Rattle.nsp_link.proofs.FailedArrival.{arrival_allowed, arrival_goes, arrival_permits, arrival_refused}
use Rattle.nsp_link.proofs.links.Links.ask_arrival.Goals as goal

pub returns-clause-permit : goal.returns-clause-permit
returns-clause-permit g c =
    arrival_permits (partner_rule (not (eqb g.row.OF_PAIR 0))) c.args.self.now
    (record { dst = c.args.dst; src = c.args.src; message = view c.args.message.now }) c.args.tag c.ask_coming.result c.ask_coming.ensures

pub returns-clause-allowed : goal.returns-clause-allowed
returns-clause-allowed g c =
    arrival_allowed (partner_rule (not (eqb g.row.OF_PAIR 0))) c.args.self.now
    (record { dst = c.args.dst; src = c.args.src; message = view c.args.message.now }) c.args.tag c.ask_coming.result c.ask_coming.ensures

pub returns-clause-same : goal.returns-clause-same
returns-clause-same g c =
    arrival_goes (partner_rule (not (eqb g.row.OF_PAIR 0))) c.args.self.now
    (record { dst = c.args.dst; src = c.args.src; message = view c.args.message.now }) c.args.tag c.ask_coming.result c.ask_coming.ensures

pub returns-clause-refused : goal.returns-clause-refused
returns-clause-refused g c =
    arrival_refused (partner_rule (not (eqb g.row.OF_PAIR 0))) c.args.self.now
    (record { dst = c.args.dst; src = c.args.src; message = view c.args.message.now }) c.args.tag c.ask_coming.result c.ask_coming.ensures
