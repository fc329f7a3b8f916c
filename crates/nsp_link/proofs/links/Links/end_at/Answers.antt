use Rattle.std.proofs.Common.{◌≡◌, ℕ, suc, cond, refl, sym, ap, ◌∙◌, nat_cmp, nat_eq}
use Rattle.std.specs.BTreeMap.{BTreeMap, get}
use Rattle.std.specs.HashMap.{HashMap}
use Rattle.std.specs.HashMap as hashed
use Rattle.dna_links.specs.Queues.{ends_by_message}
use Rattle.dna_links.specs.declared.queue.Queues.TheVariants.{With}
use Rattle.dna_links.specs.Links.{LinkOf}
use Rattle.dna_links.specs.declared.port.Port.{Port}
use Rattle.dna_links.specs.LookUps.{is_at, is_calling}
use Rattle.dna_links.specs.WireSegments.{WireSegments, wire_segments}
use Rattle.nsp_link.specs.Kinds.{queues_of}
use Rattle.nsp_link.specs.inner.Index.{begins_use, times}
use Rattle.nsp_link.proofs.LookUps.{eq-is_at}
use Rattle.nsp_link.proofs.Indexed.{some_wait, some_reached}
use Rattle.nsp_link.proofs.Giving.{one_link}
use Rattle.nsp_link.proofs.Change.{in_place, link_there, link_found, ended_index, change_made}
use Rattle.nsp_link.proofs.Settled.{ends_port}
use Rattle.nsp_link.proofs.Used.{used_change, used_if, used_with}
use Rattle.nsp_link.proofs.Dead.{dead_lives}
use Rattle.nsp_link.proofs.links.Links.end_at.Goals as goal

pub end-requires : goal.end-requires
end-requires g c = c.requires.live _ (link_found (in_place c.self.view_is c.requires.within c.index_mut.ensures.value))

pub forget-requires-clause-waits : goal.forget-requires-clause-waits
forget-requires-clause-waits g c = λ calling.
    let k = c.index.result.now in
    some_wait c.self.inside.links.items _ _ _ _ c.self.invariant.indexed.found c.args.number k k
    (link_there (in_place c.self.view_is c.requires.within c.index.ensures))
    (sym (ap (λ (p : Port). is_calling p.phase) c.port-port.ensures.port) ∙ calling)

pub forget-requires-clause-reaches : goal.forget-requires-clause-reaches
forget-requires-clause-reaches g c = λ far known.
    let at = in_place c.self.view_is c.requires.within c.index.ensures in
    let k = c.index.result.now in
    some_reached c.self.inside.links.items _ _ _ _ c.self.invariant.indexed.found c.args.number k k (link_there at) far
    (c.requires.live k (link_found at))
    (eq-is_at k.port.far far (sym (ap (λ (p : Port). p.far) c.port-port.ensures.port) ∙ known))

pub invariant_of-self : goal.invariant_of-self
invariant_of-self g c =
    let items = c.self.inside.links.items in
    let at = in_place c.self.view_is c.requires.within c.index.ensures in
    let k = c.index.result.now in
    let same : c.index_mut.result.now ≡ k =
    one_link items items c.args.number c.index_mut.result.now k k refl c.index_mut.ensures.value (link_there at) refl in
    let is = c.end.ensures.ends ∙ ap (ends_by_message wire_segments (queues_of g.row.QUEUES)) same in
    record {
      indexed = record {
        found = ended_index at c.self.invariant.indexed.found
            (λ q. ap (λ (m : BTreeMap ℕ ℕ). get nat_cmp m q) (c.count_only_with.ensures.holders ∙ c.forget.ensures.holders))
            (λ q. ap (λ (m : BTreeMap ℕ ℕ). get nat_cmp m q) (c.count_only_with.ensures.callers ∙ c.forget.ensures.callers))
            c.end.new.self c.port-port.ensures.port (c.requires.live k (link_found at))
            (ap (λ (l : LinkOf WireSegments). l.port) is ∙ ends_port (queues_of g.row.QUEUES) k)
            (ap (λ (n : ℕ). cond (is_calling c.port-port.result.phase) (suc n) n) c.count_only_with.ensures.waiting ∙ c.forget.ensures.waiting)
            (λ q. ap (λ (m : HashMap ℕ ℕ _).
            cond (is_at c.port-port.result.far q) (suc (times (hashed.get nat_eq m q))) (times (hashed.get nat_eq m q)))
            c.count_only_with.ensures.reached ∙ c.forget.ensures.reached q);
        used = used_if _ _ _ (λ on.
            used_change With items c.args.number k c.end.new.self _ _
            (used_with _ _ _ (sym c.forget.ensures.counts ∙ c.count_only_with.ensures.before on) c.self.invariant.indexed.used) (link_there at)
            (c.end.ensures.uses (c.count_only_with.ensures.kind on) ∙ ap begins_use same)
            (λ q. ap (λ (m : HashMap ℕ ℕ _). times (hashed.get nat_eq m q)) (c.count_only_with.ensures.in_use ∙ c.forget.ensures.in_use)));
      };
      dead = dead_lives at _ c.requires.live c.self.invariant.dead;
    }

pub returns : goal.returns
returns g c =
    change_made (in_place c.self.view_is c.requires.within c.index_mut.ensures.value) (ends_by_message wire_segments (queues_of g.row.QUEUES))
    c.end.ensures.ends
