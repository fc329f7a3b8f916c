use Rattle.dna_links.specs.User.{view}
use Rattle.nsp_link.specs.Kinds.{queues_of}
use Rattle.nsp_link.proofs.FailedEvent.{event_allowed, event_refused}
use Rattle.nsp_link.proofs.links.Links.ask_user.Goals as goal

pub returns-clause-allowed : goal.returns-clause-allowed
returns-clause-allowed g c =
    event_allowed (queues_of g.row.QUEUES) c.args.self.now (view c.args.event) c.ask_event.result c.ask_event.ensures

pub returns-clause-refused : goal.returns-clause-refused
returns-clause-refused g c =
    event_refused (queues_of g.row.QUEUES) c.args.self.now (view c.args.event) c.ask_event.result c.ask_event.ensures
