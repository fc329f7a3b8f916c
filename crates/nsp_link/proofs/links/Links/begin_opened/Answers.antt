use Rattle.std.proofs.Common.{ap, ◌∙◌}
use Rattle.dna_links.specs.declared.port.LinkTest.TheVariants.{LiveAt}
use Rattle.dna_links.specs.Links.{number_of}
use Rattle.nsp_link.specs.Kinds.{queues_of}
use Rattle.nsp_link.proofs.LookUps.{address_found}
use Rattle.nsp_link.proofs.Found.{dead_holder}
use Rattle.nsp_link.proofs.Giving.{opened_made}
use Rattle.nsp_link.proofs.Change.{map_ok}
use Rattle.nsp_link.proofs.Dead.{dead_opened}
use Rattle.nsp_link.proofs.links.Links.begin_opened.Goals as goal

pub opened_at-requires : goal.opened_at-requires
opened_at-requires g c =
    let i = c.self.inside in
    record {
      index = c.self.invariant.indexed;
      dead = λ n l held there.
          dead_holder c.args.own i.links.items _ _ _ _ c.self.invariant.indexed.found
          (ap (number_of (LiveAt c.args.own)) c.self.view_is ∙ c.requires) n l held there;
    }

pub returns-clause-ok : goal.returns-clause-ok
returns-clause-ok g c =
    let l = c.self.inside in
    map_ok c.opened_at.result
    (λ e. opened_made _ l.node l.peer l.links.items c.args.self.now c.self.view_is c.args.own _
    (address_found l.links.items _ _ _ _ c.self.invariant.indexed.found c.args.own) c.opened_at.new.links.items e) c.opened_at.ensures.ok

pub invariant_of-self : goal.invariant_of-self
invariant_of-self g c = record {
  indexed = c.opened_at.ensures.index;
  dead = dead_opened _ (queues_of g.row.QUEUES) _ c.opened_at.result c.opened_at.ensures.ok c.opened_at.ensures.err c.self.invariant.dead;
}
