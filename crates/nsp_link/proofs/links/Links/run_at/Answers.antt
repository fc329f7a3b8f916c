use Rattle.std.proofs.Common.{rules, sym, ap, ◌∙◌}
use Rattle.dna_links.specs.declared.port.Phase.TheVariants.{Running}
use Rattle.nsp_link.specs.Kinds.{queues_of}
use Rattle.nsp_link.specs.inner.Rows.{runs, takes_in}
use Rattle.nsp_link.proofs.Change.{in_place, changes, change_made, link_found}
use Rattle.nsp_link.proofs.Settled.{moves}
use Rattle.nsp_link.proofs.Dead.{dead_lives}
use Rattle.nsp_link.proofs.links.Links.run_at.Goals as goal

pub run-requires : goal.run-requires
run-requires g c = c.requires.live _ (link_found (in_place c.self.view_is c.requires.within c.index_mut.ensures.value))

pub invariant_of-self : goal.invariant_of-self
invariant_of-self g c = record {
  indexed = search (rules, changes);
  dead = dead_lives (in_place c.self.view_is c.requires.within c.index_mut.ensures.value) _ c.requires.live c.self.invariant.dead;
}

pub returns : goal.returns
returns g c =
    let at = in_place c.self.view_is c.requires.within c.index_mut.ensures.value in
    change_made at (runs (queues_of g.row.QUEUES) (λ segments. segments))
    (c.run.ensures.runs ∙ ap (takes_in (λ segments. segments))
    (sym (moves (queues_of g.row.QUEUES) Running c.index_mut.result.now (c.requires.live _ (link_found at)))))
