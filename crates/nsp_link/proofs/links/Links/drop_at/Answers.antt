use Rattle.std.proofs.Common.{◌≡◌, ℕ, refl, sym, ap, ◌∙◌, suc, cond, nat_cmp, nat_eq}
use Rattle.std.specs.BTreeMap.{BTreeMap, get}
use Rattle.std.specs.HashMap.{HashMap}
use Rattle.std.specs.HashMap as hashed
use Rattle.dna_links.specs.Queues.{drops}
use Rattle.dna_links.specs.declared.queue.Queues.TheVariants.{With}
use Rattle.dna_links.specs.Links.{LinkOf}
use Rattle.dna_links.specs.declared.port.Port.{Port}
use Rattle.dna_links.specs.LookUps.{is_at, is_calling}
use Rattle.dna_links.specs.WireSegments.{WireSegments, wire_segments}
use Rattle.nsp_link.specs.Kinds.{queues_of}
use Rattle.nsp_link.specs.inner.Index.{begins_use, times}
use Rattle.nsp_link.proofs.LookUps.{eq-is_at}
use Rattle.nsp_link.proofs.Indexed.{some_wait, some_reached}
use Rattle.nsp_link.proofs.Giving.{one_link}
use Rattle.nsp_link.proofs.Change.{in_place, link_there, link_found, ended_index, change_made}
use Rattle.nsp_link.proofs.Settled.{drops_port, drops_use}
use Rattle.nsp_link.proofs.Used.{link_some, released_with, used_end, used_if, used_same, used_with}
use Rattle.nsp_link.proofs.Dead.{dead_lives}
use Rattle.nsp_link.proofs.links.Links.drop_at.Goals as goal

pub drop-requires : goal.drop-requires
drop-requires g c = c.requires.live _ (link_found (in_place c.self.view_is c.requires.within c.index_mut.ensures.value))

pub forget-requires-clause-waits : goal.forget-requires-clause-waits
forget-requires-clause-waits g c = λ calling.
    let k = c.index.result.now in
    some_wait c.self.inside.links.items _ _ _ _ c.self.invariant.indexed.found c.args.number k k
    (link_there (in_place c.self.view_is c.requires.within c.index.ensures))
    (sym (ap (λ (p : Port). is_calling p.phase) c.port-port.ensures.port) ∙ calling)

pub forget-requires-clause-reaches : goal.forget-requires-clause-reaches
forget-requires-clause-reaches g c = λ far known.
    let at = in_place c.self.view_is c.requires.within c.index.ensures in
    let k = c.index.result.now in
    some_reached c.self.inside.links.items _ _ _ _ c.self.invariant.indexed.found c.args.number k k (link_there at) far
    (c.requires.live k (link_found at))
    (eq-is_at k.port.far far (sym (ap (λ (p : Port). p.far) c.port-port.ensures.port) ∙ known))

pub end_use-requires : goal.end_use-requires
end_use-requires g c = λ on far known.
    let k = c.index-2.result.now in
    let items = c.self.inside.links.items in
    link_some With refl items c.args.number k _
    (used_same With items items _ _
    (used_with _ _ _ (sym c.forget.ensures.counts ∙ c.count_only_with.ensures.before on) c.self.invariant.indexed.used) refl (λ q.
    ap (λ (m : HashMap ℕ ℕ _). times (hashed.get nat_eq m q)) (c.count_only_with.ensures.in_use ∙ c.forget.ensures.in_use)))
    (link_there (in_place c.self.view_is c.requires.within c.index-2.ensures)) far (sym c.begins_use-known.ensures ∙ known)

pub invariant_of-self : goal.invariant_of-self
invariant_of-self g c =
    let items = c.self.inside.links.items in
    let at = in_place c.self.view_is c.requires.within c.index.ensures in
    let k = c.index.result.now in
    let same : c.index_mut.result.now ≡ k =
    one_link items items c.args.number c.index_mut.result.now k k refl c.index_mut.ensures.value (link_there at) refl in
    let other : c.index-2.result.now ≡ k = one_link items items c.args.number c.index-2.result.now k k refl c.index-2.ensures (link_there at) refl in
    let is = c.drop.ensures.drops ∙ ap (drops wire_segments (queues_of g.row.QUEUES)) same in
    record {
      indexed = record {
        found = ended_index at c.self.invariant.indexed.found
            (λ q. ap (λ (m : BTreeMap ℕ ℕ). get nat_cmp m q)
            (c.end_use.ensures.holders ∙ c.count_only_with.ensures.holders ∙ c.forget.ensures.holders))
            (λ q. ap (λ (m : BTreeMap ℕ ℕ). get nat_cmp m q)
            (c.end_use.ensures.callers ∙ c.count_only_with.ensures.callers ∙ c.forget.ensures.callers))
            c.drop.new.self c.port-port.ensures.port (c.requires.live k (link_found at))
            (ap (λ (l : LinkOf WireSegments). l.port) is ∙ drops_port (queues_of g.row.QUEUES) k)
            (ap (λ (n : ℕ). cond (is_calling c.port-port.result.phase) (suc n) n)
            (c.end_use.ensures.waiting ∙ c.count_only_with.ensures.waiting) ∙ c.forget.ensures.waiting)
            (λ q. ap (λ (m : HashMap ℕ ℕ _).
            cond (is_at c.port-port.result.far q) (suc (times (hashed.get nat_eq m q))) (times (hashed.get nat_eq m q)))
            (c.end_use.ensures.reached ∙ c.count_only_with.ensures.reached) ∙ c.forget.ensures.reached q);
        used = used_if _ _ _ (λ on.
            let counted = sym c.end_use.ensures.counts ∙ on in
            used_end With items c.args.number k c.drop.new.self _ _
            (used_same With items items _ _
            (used_with _ _ _ (sym c.forget.ensures.counts ∙ c.count_only_with.ensures.before counted) c.self.invariant.indexed.used) refl (λ q.
            ap (λ (m : HashMap ℕ ℕ _). times (hashed.get nat_eq m q)) (c.count_only_with.ensures.in_use ∙ c.forget.ensures.in_use)))
            (link_there at) (λ with. ap begins_use is ∙ drops_use (queues_of g.row.QUEUES) k (c.count_only_with.ensures.kind counted))
            (released_with _ _ _ _ counted (rw (c.begins_use-known.ensures ∙ ap begins_use other) at c.end_use.ensures.in_use)));
      };
      dead = dead_lives at _ c.requires.live c.self.invariant.dead;
    }

pub returns : goal.returns
returns g c =
    change_made (in_place c.self.view_is c.requires.within c.index_mut.ensures.value) (drops wire_segments (queues_of g.row.QUEUES))
    c.drop.ensures.drops
