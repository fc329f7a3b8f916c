use Rattle.std.proofs.Common.{◌≡◌, ℕ, suc, cond, eqb, refl, sym, ap, ◌∙◌, arith, nat_cmp, nat_eq}
use Rattle.std.specs.BTreeMap.{BTreeMap, get}
use Rattle.std.specs.HashMap.{HashMap}
use Rattle.std.specs.HashMap as hashed
use Rattle.dna_links.specs.declared.port.Phase.TheVariants.{Running}
use Rattle.dna_links.specs.Links.{LinkOf}
use Rattle.dna_links.specs.declared.queue.Queues.TheVariants.{With}
use Rattle.dna_links.specs.WireSegments.{WireSegments}
use Rattle.nsp_link.specs.Kinds.{queues_of}
use Rattle.nsp_link.specs.inner.Index.{times}
use Rattle.nsp_link.specs.inner.Queue.{moved}
use Rattle.nsp_link.specs.inner.Rows.{confirmed, connected}
use Rattle.nsp_link.proofs.Indexed.{some_wait, few_reached}
use Rattle.nsp_link.proofs.Giving.{one_link}
use Rattle.nsp_link.proofs.Change.{in_place, link_there, link_found, confirmed_index, change_made}
use Rattle.nsp_link.proofs.Settled.{moves, calling_lives}
use Rattle.nsp_link.proofs.Used.{opened_uses, used_change, used_if, used_with}
use Rattle.nsp_link.proofs.Dead.{dead_lives}
use Rattle.nsp_link.proofs.links.Links.confirm_at.Goals as goal

pub confirm-requires : goal.confirm-requires
confirm-requires g c =
    let at = in_place c.self.view_is c.requires.within c.index_mut.ensures.value in
    calling_lives _ (c.requires.calling _ (link_found at))

pub stop_waiting-requires : goal.stop_waiting-requires
stop_waiting-requires g c =
    let at = in_place c.self.view_is c.requires.within c.index.ensures in
    let k = c.index.result.now in
    some_wait c.self.inside.links.items _ _ _ _ c.self.invariant.indexed.found c.args.number k k (link_there at)
    (c.requires.calling k (link_found at))

pub reach-requires-clause-few : goal.reach-requires-clause-few
reach-requires-clause-few g c =
    let l = c.self.inside in
    let low = few_reached l.links.items _ _ _ _ c.self.invariant.indexed.found c.args.far in
    let same = ap (λ (k : HashMap ℕ ℕ _). times (hashed.get nat_eq k c.args.far)) c.stop_waiting.ensures.reached in
    omega (arith, l.links.ok)

pub invariant_of-self : goal.invariant_of-self
invariant_of-self g c =
    let items = c.self.inside.links.items in
    let at = in_place c.self.view_is c.requires.within c.index.ensures in
    let far = c.args.far in
    let k = c.index.result.now in
    let calling = c.requires.calling k (link_found at) in
    let known = c.port-port.ensures.calling calling in
    let same : c.index_mut.result.now ≡ k =
    one_link items items c.args.number c.index_mut.result.now k k refl c.index_mut.ensures.value (link_there at) refl in
    let is = c.confirm.ensures
    ∙ ap (λ (l : LinkOf WireSegments). moved (queues_of g.row.QUEUES) Running (connected far c.args.segsize c.args.tag l)) same in
    record {
      indexed = record {
        found = confirmed_index at c.self.invariant.indexed.found
            (λ q. ap (λ (m : BTreeMap ℕ ℕ). get nat_cmp m q) (c.reach.ensures.holders ∙ c.stop_waiting.ensures.holders))
            (λ q. ap (λ (m : BTreeMap ℕ ℕ). get nat_cmp m q) (c.reach.ensures.callers ∙ c.stop_waiting.ensures.callers))
            far c.confirm.new.self calling known (ap (λ (l : LinkOf WireSegments). l.port) is)
            (ap suc c.reach.ensures.waiting ∙ c.stop_waiting.ensures.waiting)
            (λ q. c.reach.ensures.reached q ∙ ap (λ (n : ℕ). cond (eqb far q) (suc n) n)
            (ap (λ (m : HashMap ℕ ℕ _). times (hashed.get nat_eq m q)) c.stop_waiting.ensures.reached));
        used = used_if _ _ _ (λ on.
            used_change With items c.args.number k c.confirm.new.self _ _
            (used_with _ _ _ (sym (c.reach.ensures.counts ∙ c.stop_waiting.ensures.counts) ∙ on) c.self.invariant.indexed.used) (link_there at)
            (opened_uses c.confirm.new.self (ap (λ (l : LinkOf WireSegments). l.port.opened) is ∙ known.0) ∙ sym (opened_uses k known.0))
            (λ q. ap (λ (m : HashMap ℕ ℕ _). times (hashed.get nat_eq m q)) (c.reach.ensures.in_use ∙ c.stop_waiting.ensures.in_use)));
      };
      dead = dead_lives at _ (λ link there. calling_lives link.port.phase (c.requires.calling link there)) c.self.invariant.dead;
    }

pub returns : goal.returns
returns g c =
    let at = in_place c.self.view_is c.requires.within c.index_mut.ensures.value in
    let lives = calling_lives c.index_mut.result.now.port.phase (c.requires.calling _ (link_found at)) in
    change_made at (confirmed (queues_of g.row.QUEUES) c.args.far c.args.segsize c.args.tag)
    (c.confirm.ensures ∙ sym (moves (queues_of g.row.QUEUES) Running (connected c.args.far c.args.segsize c.args.tag c.index_mut.result.now) lives))
