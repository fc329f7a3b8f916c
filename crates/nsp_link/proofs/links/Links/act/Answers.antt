use Rattle.dna_links.specs.User.{view}
use Rattle.nsp_link.specs.Kinds.{queues_of}
use Rattle.nsp_link.proofs.FailedEvent.{event_fits, event_makes}
use Rattle.nsp_link.proofs.links.Links.act.Goals as goal

pub make_event-requires : goal.make_event-requires
make_event-requires g c = event_fits (queues_of g.row.QUEUES) c.args.self.now (view c.args.event) c.args.permit c.requires

pub returns-clause-ok : goal.returns-clause-ok
returns-clause-ok g c =
    event_makes (queues_of g.row.QUEUES) c.args.self.now (view c.args.event) c.args.permit c.requires c.make_event.result c.make_event.new.self
    c.make_event.ensures.ok
