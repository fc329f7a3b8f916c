use Rattle.std.proofs.Common.{IfErr, subst, sym}
use Rattle.dna_links.specs.User.{view}
use Rattle.dna_links.specs.WireLinks.{wire_links_user}
use Rattle.nsp_link.specs.Fault.{IsFault}
use Rattle.nsp_link.specs.Kinds.{queues_of}
use Rattle.nsp_link.specs.Phases.{event_takes_memory}
use Rattle.nsp_link.proofs.links.Links.user.Goals as goal

pub returns-in-In-clause-refused : goal.returns-in-In-clause-refused
returns-in-In-clause-refused g c =
    subst (λ event. IfErr c.ask_and_act.result
    (λ fault. IsFault (wire_links_user (queues_of g.row.QUEUES) c.args.self.now (view event)) (event_takes_memory (view event)) fault))
    (sym c.in-In.is) c.ask_and_act.ensures.refused
