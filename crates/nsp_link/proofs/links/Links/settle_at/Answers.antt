use Rattle.std.proofs.Common.{◌≡◌, ℕ, refl, sym, ap, ◌∙◌, nat_cmp, nat_eq}
use Rattle.std.specs.BTreeMap.{BTreeMap, get}
use Rattle.std.specs.HashMap.{HashMap}
use Rattle.std.specs.HashMap as hashed
use Rattle.dna_links.specs.Links.{LinkOf}
use Rattle.dna_links.specs.Queues.{settled}
use Rattle.dna_links.specs.declared.queue.Queues.TheVariants.{With}
use Rattle.dna_links.specs.WireSegments.{WireSegments, wire_segments}
use Rattle.nsp_link.specs.inner.Index.{times, use_that_ends}
use Rattle.nsp_link.proofs.Giving.{one_link}
use Rattle.nsp_link.proofs.Change.{in_place, link_there, change_made}
use Rattle.nsp_link.proofs.Settled.{settled_index, ends_some}
use Rattle.nsp_link.proofs.Used.{used_with}
use Rattle.nsp_link.proofs.Dead.{dead_same, settled_dead}
use Rattle.nsp_link.proofs.links.Links.settle_at.Goals as goal

pub end_use-requires : goal.end_use-requires
end_use-requires g c = λ on far known.
    let k = c.index.result.now in
    ends_some With refl c.self.inside.links.items c.args.number k _ (used_with _ _ _ on c.self.invariant.indexed.used)
    (link_there (in_place c.self.view_is c.requires.within c.index.ensures)) far (sym c.use_that_ends-known.ensures ∙ known)

pub invariant_of-self : goal.invariant_of-self
invariant_of-self g c =
    let items = c.self.inside.links.items in
    let at = in_place c.self.view_is c.requires.within c.index_mut.ensures.value in
    let k = c.index.result.now in
    let same : c.index_mut.result.now ≡ k =
    one_link items items c.args.number c.index_mut.result.now k k refl c.index_mut.ensures.value
    (link_there (in_place c.self.view_is c.requires.within c.index.ensures)) refl in
    record {
      indexed = settled_index at c.self.invariant.indexed c.settle.ensures.found c.settle.ensures.uses
          (λ q. ap (λ (m : BTreeMap ℕ ℕ). get nat_cmp m q) c.end_use.ensures.holders)
          (λ q. ap (λ (m : BTreeMap ℕ ℕ). get nat_cmp m q) c.end_use.ensures.callers)
          (λ q. ap (λ (m : HashMap ℕ ℕ _). times (hashed.get nat_eq m q)) c.end_use.ensures.reached) c.end_use.ensures.waiting
          (rw (sym (c.use_that_ends-known.ensures ∙ ap (λ (l : LinkOf WireSegments). use_that_ends l.queue.waits l) (sym same)))
          c.end_use.ensures.in_use)
          c.end_use.ensures.counts;
      dead = dead_same at _ (settled_dead _ _ c.settle.ensures.settles) c.self.invariant.dead;
    }

pub returns : goal.returns
returns g c =
    change_made (in_place c.self.view_is c.requires.within c.index_mut.ensures.value)
    (λ l. settled wire_segments l.queue.waits l) c.settle.ensures.settles
