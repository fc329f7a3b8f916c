use Rattle.std.proofs.Common.{◌≡◌, ℕ, suc, cond, eqb, Some, List, [], ◌∷◌, ◌++◌, length, refl, sym, ap, ◌∙◌, arith, nat_cmp, nat_eq}
use Rattle.std.specs.BTreeMap.{BTreeMap, get}
use Rattle.std.specs.HashMap.{HashMap}
use Rattle.std.specs.HashMap as hashed
use Rattle.dna_links.specs.Links.{LinkOf}
use Rattle.dna_links.specs.declared.queue.Queues.TheVariants.{With}
use Rattle.dna_links.specs.WireSegments.{WireSegments}
use Rattle.nsp_link.specs.inner.Index.{begins_use, times}
use Rattle.nsp_link.proofs.Beginning.{called_index}
use Rattle.nsp_link.proofs.Used.{few_used, taken_with, used_call, used_if, used_same, used_with}
use Rattle.nsp_link.proofs.links.begin.called_at.Goals as goal

pub begin_use-requires-clause-few : goal.begin_use-requires-clause-few
begin_use-requires-clause-few g c = λ on.
    let items = c.args.links.now.items in
    let counted = sym (c.reach.ensures.counts ∙ c.call.ensures.counts ∙ c.make_use_room.ensures.counts ∙ c.make_room.ensures.counts) ∙ on in
    let all = few_used With refl items c.args.far _ (used_with _ _ _ counted c.count_uses.ensures.index.used) in
    let same = ap (λ (k : HashMap ℕ ℕ _). times (hashed.get nat_eq k c.args.far)) (c.reach.ensures.in_use ∙ c.call.ensures.in_use)
    ∙ c.make_use_room.ensures.in_use c.args.far ∙ ap (λ (k : HashMap ℕ ℕ _). times (hashed.get nat_eq k c.args.far)) c.make_room.ensures.in_use in
    let few = c.make_room.new.links.ok in
    let long = ap (λ (xs : List (LinkOf WireSegments)). length xs) c.make_room.ensures.links in
    omega arith

pub returns-clause-index : goal.returns-clause-index
returns-clause-index g c =
    let m = c.in_ok-link.link in
    let far = c.args.far in
    let items = c.args.links.now.items in
    let room = c.make_room.new.links.items in
    let same : room ≡ items = c.make_room.ensures.links in
    let pushed = c.push_reserved.ensures.items ∙ ap (λ (xs : List (LinkOf WireSegments)). xs ++ m ∷ []) same in
    let number : c.len.result ≡ length room = omega (arith, c.make_room.new.links.ok) in
    record {
      found = called_index far c.args.segsize c.args.tag m items _ _ _ _ _ _ _ _ _ c.count_uses.ensures.index.found
          c.requires.free c.in_ok-link.ensures pushed
          (λ q. ap (λ (k : BTreeMap ℕ ℕ). get nat_cmp k q) (c.begin_use.ensures.holders ∙ c.reach.ensures.holders ∙ c.call.ensures.holders
          ∙ c.make_use_room.ensures.holders ∙ c.make_room.ensures.holders))
          (λ q. ap (λ (k : BTreeMap ℕ ℕ). get nat_cmp k q) (c.begin_use.ensures.callers ∙ c.reach.ensures.callers) ∙ c.in_ok-call.ensures.ok q
          ∙ ap (λ (k : ℕ). cond (eqb far q) (Some k) (get nat_cmp c.make_use_room.new.index.callers q))
          (number ∙ ap (λ (xs : List (LinkOf WireSegments)). length xs) same)
          ∙ ap (λ (k : BTreeMap ℕ ℕ). cond (eqb far q) (Some (length items)) (get nat_cmp k q))
          (c.make_use_room.ensures.callers ∙ c.make_room.ensures.callers))
          (λ q. ap (λ (k : HashMap ℕ ℕ _). times (hashed.get nat_eq k q)) c.begin_use.ensures.reached ∙ c.reach.ensures.reached q
          ∙ ap (λ (k : ℕ). cond (eqb far q) (suc k) k)
          (ap (λ (k : HashMap ℕ ℕ _). times (hashed.get nat_eq k q)) (c.call.ensures.reached ∙ c.make_use_room.ensures.reached)
          ∙ c.make_room.ensures.reached q))
          (c.begin_use.ensures.waiting ∙ c.reach.ensures.waiting ∙ c.call.ensures.waiting ∙ c.make_use_room.ensures.waiting
          ∙ c.make_room.ensures.waiting);
      used = used_if _ _ _ (λ on.
          let here = sym c.begin_use.ensures.counts ∙ on in
          let counted = sym (c.reach.ensures.counts ∙ c.call.ensures.counts ∙ c.make_use_room.ensures.counts ∙ c.make_room.ensures.counts) ∙ here in
          used_same With _ _ _ _
          (used_call With items m far _ _
          (used_same With items items _ _ (used_with _ _ _ counted c.count_uses.ensures.index.used) refl (λ q.
          ap (λ (k : HashMap ℕ ℕ _). times (hashed.get nat_eq k q)) (c.reach.ensures.in_use ∙ c.call.ensures.in_use)
          ∙ c.make_use_room.ensures.in_use q ∙ ap (λ (k : HashMap ℕ ℕ _). times (hashed.get nat_eq k q)) c.make_room.ensures.in_use))
          (ap begins_use c.in_ok-link.ensures) (taken_with _ _ _ _ here c.begin_use.ensures.in_use))
          pushed (λ q. refl));
    }
