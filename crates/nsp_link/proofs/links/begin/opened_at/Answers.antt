use Rattle.std.proofs.Common.{◌≡◌, ℕ, suc, cond, eqb, Option, Some, List, [], ◌∷◌, ◌++◌, length, refl, sym, ap, ◌∙◌, arith, nat_cmp, nat_eq}
use Rattle.std.specs.BTreeMap.{BTreeMap, get}
use Rattle.std.specs.HashMap.{HashMap}
use Rattle.std.specs.HashMap as hashed
use Rattle.dna_links.specs.Links.{LinkOf}
use Rattle.dna_links.specs.declared.queue.Queues.{Queues}
use Rattle.dna_links.specs.declared.queue.Queues.TheVariants.{With}
use Rattle.dna_links.specs.WireSegments.{WireSegments}
use Rattle.nsp_link.specs.Kinds.{queues_of}
use Rattle.nsp_link.specs.inner.Index.{begins_use, forgotten_at, held_use, times}
use Rattle.nsp_link.proofs.Giving.{opened_index}
use Rattle.nsp_link.proofs.Used.{dead_unused, held_some, released_with, used_forgets, used_if, used_push, used_same, used_with}
use Rattle.nsp_link.proofs.links.begin.opened_at.Goals as goal

pub end_use-requires : goal.end_use-requires
end_use-requires g c = λ on far known.
    let items = c.args.links.now.items in
    let counted = sym (c.wait.ensures.counts ∙ c.give.ensures.counts ∙ c.make_room.ensures.counts) ∙ on in
    held_some With refl items _ _
    (used_same With items items _ _ (used_with _ _ _ counted c.count_uses.ensures.index.used) refl (λ q.
    ap (λ (k : HashMap ℕ ℕ _). times (hashed.get nat_eq k q)) (c.wait.ensures.in_use ∙ c.give.ensures.in_use ∙ c.make_room.ensures.in_use)))
    far (sym (c.use_of.ensures ∙ ap (held_use c.holder-holder.result) c.make_room.ensures.links) ∙ known)

pub returns-clause-index : goal.returns-clause-index
returns-clause-index g c =
    let m = c.in_ok-link.link in
    let own = c.args.own in
    let items = c.args.links.now.items in
    let room = c.make_room.new.links.items in
    let same : room ≡ items = c.make_room.ensures.links in
    let number : c.len.result ≡ length room = omega (arith, c.make_room.new.links.ok) in
    let holder = c.holder-holder.ensures ∙ ap (λ (k : BTreeMap ℕ ℕ). get nat_cmp k own) c.make_room.ensures.holders in
    let before = holder ∙ ap (λ (k : BTreeMap ℕ ℕ). get nat_cmp k own) c.count_uses.ensures.holders in
    let put = c.put_opened.ensures
    ∙ ap (λ (xs : List (LinkOf WireSegments)). forgotten_at (queues_of g.row.QUEUES) c.holder-holder.result xs ++ m ∷ []) same
    ∙ ap (λ (h : Option ℕ). forgotten_at (queues_of g.row.QUEUES) h items ++ m ∷ []) holder in
    record {
      found = opened_index _ own m items _ _ _ _ _ _ _ _ _ c.count_uses.ensures.index.found c.in_ok-link.ensures put
          (λ q. ap (λ (k : BTreeMap ℕ ℕ). get nat_cmp k q)
          (c.end_use.ensures.callers ∙ c.wait.ensures.callers ∙ c.give.ensures.callers ∙ c.make_room.ensures.callers))
          (λ q. ap (λ (k : HashMap ℕ ℕ _). times (hashed.get nat_eq k q))
          (c.end_use.ensures.reached ∙ c.wait.ensures.reached ∙ c.give.ensures.reached) ∙ c.make_room.ensures.reached q)
          (c.end_use.ensures.waiting ∙ c.wait.ensures.waiting ∙ ap suc (c.give.ensures.waiting ∙ c.make_room.ensures.waiting))
          (λ q. ap (λ (k : BTreeMap ℕ ℕ). get nat_cmp k q) (c.end_use.ensures.holders ∙ c.wait.ensures.holders) ∙ c.in_ok-give.ensures.ok q
          ∙ ap (λ (k : ℕ). cond (eqb own q) (Some k) (get nat_cmp c.make_room.new.index.holders q))
          (number ∙ ap (λ (xs : List (LinkOf WireSegments)). length xs) same)
          ∙ ap (λ (k : BTreeMap ℕ ℕ). cond (eqb own q) (Some (length items)) (get nat_cmp k q)) c.make_room.ensures.holders);
      used = used_if _ _ _ (λ on.
          let here = sym c.end_use.ensures.counts ∙ on in
          let counted = sym (c.wait.ensures.counts ∙ c.give.ensures.counts ∙ c.make_room.ensures.counts) ∙ here in
          used_same With _ _ _ _
          (used_push With (forgotten_at With c.holder-holder.result items) m _ _
          (used_forgets With items c.holder-holder.result _ _
          (used_same With items items _ _ (used_with _ _ _ counted c.count_uses.ensures.index.used) refl (λ q.
          ap (λ (k : HashMap ℕ ℕ _). times (hashed.get nat_eq k q)) (c.wait.ensures.in_use ∙ c.give.ensures.in_use ∙ c.make_room.ensures.in_use)))
          (λ n l held there. dead_unused l (c.requires.dead n l (sym before ∙ held) there))
          (released_with _ _ _ _ here (rw (c.use_of.ensures ∙ ap (held_use c.holder-holder.result) same) at c.end_use.ensures.in_use)))
          (ap begins_use c.in_ok-link.ensures) (λ q. refl))
          (c.put_opened.ensures
          ∙ ap (λ (xs : List (LinkOf WireSegments)). forgotten_at (queues_of g.row.QUEUES) c.holder-holder.result xs ++ m ∷ []) same
          ∙ ap (λ (k : Queues). forgotten_at k c.holder-holder.result items ++ m ∷ []) (c.count_uses.ensures.kind counted)) (λ q. refl));
    }
