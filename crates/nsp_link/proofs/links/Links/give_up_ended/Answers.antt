use Rattle.dna_links.specs.Queues.{drops}
use Rattle.dna_links.specs.WireSegments.{wire_segments}
use Rattle.dna_links.specs.declared.queue.Queues.TheVariants.{With}
use Rattle.nsp_link.proofs.Change.{in_place, change_made, link_found, stays_index}
use Rattle.nsp_link.proofs.Dead.{dead_kept}
use Rattle.nsp_link.proofs.Dropped.{calling_keeps, stays_given_up}
use Rattle.nsp_link.proofs.links.Links.give_up_ended.Goals as goal

pub give_up-requires : goal.give_up-requires
give_up-requires g c =
    let k = c.index_mut.result.now in
    let found = link_found (in_place c.self.view_is c.requires.within c.index_mut.ensures.value) in
    record { opened = (c.requires.over k found).1; kept = calling_keeps k (c.requires.calls k found) }

pub invariant_of-self : goal.invariant_of-self
invariant_of-self g c =
    let at = in_place c.self.view_is c.requires.within c.index_mut.ensures.value in
    let k = c.index_mut.result.now in
    let found = link_found at in
    record {
      indexed = stays_index (stays_given_up k _ c.give_up.ensures (c.requires.over k found) (c.requires.calls k found)) c.index_mut.ensures.value
          c.self.view_is c.requires.within c.self.invariant.indexed;
      dead = dead_kept at _ (λ link there. calling_keeps link (c.requires.calls link there)) c.self.invariant.dead;
    }

pub returns : goal.returns
returns g c =
    change_made (in_place c.self.view_is c.requires.within c.index_mut.ensures.value) (drops wire_segments With) c.give_up.ensures
