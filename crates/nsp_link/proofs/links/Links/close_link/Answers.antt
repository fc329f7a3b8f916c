use Rattle.std.proofs.Common.{rules}
use Rattle.dna_links.specs.declared.port.Phase.TheVariants.{Disconnecting}
use Rattle.dna_links.specs.Queues.{goes_to}
use Rattle.dna_links.specs.WireSegments.{wire_segments}
use Rattle.nsp_link.specs.Kinds.{queues_of}
use Rattle.nsp_link.proofs.Change.{in_place, changes, change_made, link_found}
use Rattle.nsp_link.proofs.Dead.{dead_kept}
use Rattle.nsp_link.proofs.links.Links.close_link.Goals as goal

pub close-requires : goal.close-requires
close-requires g c =
    let found = link_found (in_place c.self.view_is c.requires.within c.index_mut.ensures.value) in
    record { live = c.requires.used _ found; kept = c.requires.kept _ found }

pub invariant_of-self : goal.invariant_of-self
invariant_of-self g c = record {
  indexed = search (rules, changes);
  dead = dead_kept (in_place c.self.view_is c.requires.within c.index_mut.ensures.value) _ c.requires.kept c.self.invariant.dead;
}

pub returns : goal.returns
returns g c =
    change_made (in_place c.self.view_is c.requires.within c.index_mut.ensures.value)
    (goes_to wire_segments (queues_of g.row.QUEUES) Disconnecting) c.close.ensures.goes
