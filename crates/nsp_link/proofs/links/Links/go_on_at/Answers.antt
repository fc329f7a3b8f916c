use Rattle.std.proofs.Common.{rules}
use Rattle.nsp_link.specs.Kinds.{queues_of}
use Rattle.nsp_link.specs.inner.Permitted.{went_on}
use Rattle.nsp_link.proofs.Change.{in_place, changes, change_made}
use Rattle.nsp_link.proofs.Dead.{dead_kept}
use Rattle.nsp_link.proofs.links.Links.go_on_at.Goals as goal

pub invariant_of-self : goal.invariant_of-self
invariant_of-self g c = record {
  indexed = search (rules, changes);
  dead = dead_kept (in_place c.self.view_is c.requires.within c.index_mut.ensures.value) _ c.requires.kept c.self.invariant.dead;
}

pub returns : goal.returns
returns g c =
    change_made (in_place c.self.view_is c.requires.within c.index_mut.ensures.value)
    (went_on (queues_of g.row.QUEUES) c.args.sent) c.go_on.ensures.goes
