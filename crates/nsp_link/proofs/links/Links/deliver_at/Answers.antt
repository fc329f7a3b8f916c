use Rattle.std.proofs.Common.{rules}
use Rattle.dna_links.specs.Links.{LinkOf, with_segments}
use Rattle.dna_links.specs.WireSegments.{WireSegments}
use Rattle.nsp_link.specs.inner.Acted.{without_pieces}
use Rattle.nsp_link.proofs.Change.{in_place, changes, change_made, link_found}
use Rattle.nsp_link.proofs.Dead.{dead_same, delivered_dead}
use Rattle.nsp_link.proofs.links.Links.deliver_at.Goals as goal

pub deliver-requires : goal.deliver-requires
deliver-requires g c = record {
  some = c.requires.some;
  few = c.requires.few _ (link_found (in_place c.self.view_is c.requires.within c.index_mut.ensures.value));
}

pub invariant_of-self : goal.invariant_of-self
invariant_of-self g c =
    let at = in_place c.self.view_is c.requires.within c.index_mut.ensures.value in
    record {
      indexed = search (rules, changes);
      dead = dead_same at _
          (delivered_dead c.args.pieces c.index_mut.result.now c.requires.some (c.requires.few _ (link_found at)))
          c.self.invariant.dead;
    }

pub returns : goal.returns
returns g c =
    change_made (in_place c.self.view_is c.requires.within c.index_mut.ensures.value)
    (λ (l : LinkOf WireSegments). with_segments (without_pieces c.args.pieces l.segments) l) c.deliver.ensures.delivers
