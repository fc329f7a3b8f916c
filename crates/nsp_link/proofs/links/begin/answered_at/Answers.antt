use Rattle.std.proofs.Common.{◌≡◌, ℕ, Option, Some, List, set, refl, sym, ap, ◌∙◌, nat_cmp, nat_eq}
use Rattle.std.specs.BTreeMap.{BTreeMap, get}
use Rattle.std.specs.HashMap.{HashMap}
use Rattle.std.specs.HashMap as hashed
use Rattle.std.specs.Prelude.{slice_get}
use Rattle.dna_links.specs.Links.{LinkOf}
use Rattle.dna_links.specs.declared.queue.Queues.{Queues}
use Rattle.dna_links.specs.declared.queue.Queues.TheVariants.{With}
use Rattle.dna_links.specs.WireSegments.{WireSegments}
use Rattle.nsp_link.specs.Kinds.{queues_of}
use Rattle.nsp_link.specs.inner.Index.{begins_use, forgotten_at, held_use, times}
use Rattle.nsp_link.specs.inner.Queue.{answered_link}
use Rattle.nsp_link.proofs.Giving.{answered_index, still_here, link_at, one_link, same_set}
use Rattle.nsp_link.proofs.Used.{dead_unused, held_some, released_with, used_change, used_forgets, used_if, used_same, used_with}
use Rattle.nsp_link.proofs.links.begin.answered_at.Goals as goal

pub end_use-requires : goal.end_use-requires
end_use-requires g c = λ on far known.
    let items = c.args.links.now.items in
    held_some With refl items _ _
    (used_same With items items _ _ (used_with _ _ _ (sym c.give.ensures.counts ∙ on) c.count_uses.ensures.index.used) refl
    (λ q. ap (λ (k : HashMap ℕ ℕ _). times (hashed.get nat_eq k q)) c.give.ensures.in_use))
    far (sym c.use_of.ensures ∙ known)

pub returns-clause-index : goal.returns-clause-index
returns-clause-index g c =
    let items = c.args.links.now.items in
    let l = c.index.result.now in
    let there : slice_get {X = LinkOf WireSegments} items c.args.number ≡ Some l = link_at items c.args.number l c.requires.within c.index.ensures in
    let was = c.requires.called l there in
    let unowned = c.port-port.ensures.called was in
    let is = c.free.ensures.items ∙ ap (λ (h : Option ℕ). forgotten_at (queues_of g.row.QUEUES) h items) c.holder-holder.ensures in
    let still = still_here (queues_of g.row.QUEUES) items _ _ _ _ c.count_uses.ensures.index.found c.args.own c.args.number l there unowned in
    let same : c.index_mut.result.now ≡ l =
    one_link c.free.new.links.items _ c.args.number c.index_mut.result.now l l is c.index_mut.ensures.value still refl in
    record {
      found = answered_index (queues_of g.row.QUEUES) c.args.phase c.args.own c.args.number l c.answer.new.self items _ _ _ _ _ _ _ _ _
          c.count_uses.ensures.index.found there was unowned
          (c.answer.ensures.answers ∙ ap (answered_link (queues_of g.row.QUEUES) c.args.phase c.args.own) same)
          c.requires.live c.requires.answers c.requires.known
          (ap (λ (xs : List (LinkOf WireSegments)). set xs c.args.number c.answer.new.self) is)
          (λ q. ap (λ (m : BTreeMap ℕ ℕ). get nat_cmp m q) (c.end_use.ensures.callers ∙ c.give.ensures.callers))
          (λ q. ap (λ (m : HashMap ℕ ℕ _). times (hashed.get nat_eq m q)) (c.end_use.ensures.reached ∙ c.give.ensures.reached))
          (c.end_use.ensures.waiting ∙ c.give.ensures.waiting)
          (λ q. ap (λ (m : BTreeMap ℕ ℕ). get nat_cmp m q) c.end_use.ensures.holders ∙ c.in_ok-give.ensures.ok q);
      used = used_if _ _ _ (λ on.
          let here = sym c.end_use.ensures.counts ∙ on in
          let counted = sym c.give.ensures.counts ∙ here in
          let with = c.count_uses.ensures.kind counted in
          used_same With _ _ _ _
          (used_change With (forgotten_at With (get nat_cmp c.count_uses.new.index.holders c.args.own) items) c.args.number l c.answer.new.self _ _
          (used_forgets With items (get nat_cmp c.count_uses.new.index.holders c.args.own) _ _
          (used_same With items items _ _ (used_with _ _ _ counted c.count_uses.ensures.index.used) refl (λ q.
          ap (λ (k : HashMap ℕ ℕ _). times (hashed.get nat_eq k q)) c.give.ensures.in_use))
          (λ n k held at. dead_unused k (c.requires.dead n k
          (sym (ap (λ (m : BTreeMap ℕ ℕ). get nat_cmp m c.args.own) c.count_uses.ensures.holders) ∙ held) at))
          (released_with _ _ _ _ here
          (rw (c.use_of.ensures ∙ ap (λ (h : Option ℕ). held_use h items) c.holder-holder.ensures) at c.end_use.ensures.in_use)))
          (ap (λ (k : Queues). slice_get (forgotten_at k (get nat_cmp c.count_uses.new.index.holders c.args.own) items) c.args.number)
          (sym with) ∙ still)
          (c.answer.ensures.uses ∙ ap begins_use same) (λ q. refl))
          (ap (λ (xs : List (LinkOf WireSegments)). set xs c.args.number c.answer.new.self)
          (is ∙ ap (λ (k : Queues). forgotten_at k (get nat_cmp c.count_uses.new.index.holders c.args.own) items) with)) (λ q. refl));
    }

pub returns-clause-ok : goal.returns-clause-ok
returns-clause-ok g c = λ link found.
    let items = c.args.links.now.items in
    let l = c.index.result.now in
    let there : slice_get {X = LinkOf WireSegments} items c.args.number ≡ Some l = link_at items c.args.number l c.requires.within c.index.ensures in
    let called = c.requires.called l there in
    let still = still_here (queues_of g.row.QUEUES) items _ _ _ _ c.count_uses.ensures.index.found
    c.args.own c.args.number l there (c.port-port.ensures.called called) in
    let is = c.free.ensures.items ∙ ap (λ (h : Option ℕ). forgotten_at (queues_of g.row.QUEUES) h items) c.holder-holder.ensures in
    let same : c.index_mut.result.now ≡ link =
    one_link c.free.new.links.items _ c.args.number c.index_mut.result.now l link is c.index_mut.ensures.value still (sym there ∙ found) in
    let before = ap (λ (m : BTreeMap ℕ ℕ). forgotten_at (queues_of g.row.QUEUES) (get nat_cmp m c.args.own) items) c.count_uses.ensures.holders in
    same_set c.free.new.links.items _ c.args.number c.answer.new.self _ (is ∙ before)
    (c.answer.ensures.answers ∙ ap (answered_link (queues_of g.row.QUEUES) c.args.phase c.args.own) same)
