use Rattle.std.proofs.Common.{rules, sym, ap, ◌∙◌}
use Rattle.dna_links.specs.declared.port.Phase.TheVariants.{Running}
use Rattle.dna_links.specs.WireSegments.{takes_acks}
use Rattle.nsp_link.specs.Kinds.{queues_of}
use Rattle.nsp_link.specs.inner.Rows.{runs, takes_in}
use Rattle.nsp_link.proofs.Change.{in_place, changes, change_made, link_found}
use Rattle.nsp_link.proofs.Settled.{moves}
use Rattle.nsp_link.proofs.Dead.{dead_lives}
use Rattle.nsp_link.proofs.links.Links.take_acks_at.Goals as goal

pub take_acks-requires : goal.take_acks-requires
take_acks-requires g c = record {
  live = c.requires.live _ (link_found (in_place c.self.view_is c.requires.within c.index_mut.ensures.value));
  acks = c.requires.acks;
}

pub invariant_of-self : goal.invariant_of-self
invariant_of-self g c = record {
  indexed = search (rules, changes);
  dead = dead_lives (in_place c.self.view_is c.requires.within c.index_mut.ensures.value) _ c.requires.live c.self.invariant.dead;
}

pub returns : goal.returns
returns g c =
    let at = in_place c.self.view_is c.requires.within c.index_mut.ensures.value in
    change_made at (runs (queues_of g.row.QUEUES) (takes_acks c.args.words.now tt))
    (c.take_acks.ensures.takes ∙ ap (takes_in (takes_acks c.args.words.now tt))
    (sym (moves (queues_of g.row.QUEUES) Running c.index_mut.result.now (c.requires.live _ (link_found at)))))
