-- A link that goes to another phase or ends, with queues or without, and what its node settles by a DC.
use Rattle.std.proofs.Common.{◌≡◌, ℕ, ◌<◌, Bool, true, false, ◌&&◌, not, cond, Option, Some, None, List, set, refl, sym, ap, ◌∙◌, nat_cmp, nat_eq}
use Rattle.std.specs.Prelude.{slice_get}
use Rattle.std.specs.BTreeMap.{get}
use Rattle.std.specs.HashMap as hashed
use Rattle.dna_links.specs.declared.port.Phase.{Phase}
use Rattle.dna_links.specs.declared.port.Phase.TheVariants.{Calling, Called, Confirming, Running, Disconnecting, Ended}
use Rattle.dna_links.specs.declared.queue.Queues.{Queues}
use Rattle.dna_links.specs.declared.queue.Queues.TheVariants.{Without, With}
use Rattle.dna_links.specs.LookUps.{is_calling, is_live}
use Rattle.dna_links.specs.Links.{LinkOf}
use Rattle.dna_links.specs.Queues.{call_of, drops, ends_by_message, goes_on, goes_to, port_of_waiting}
use Rattle.dna_links.specs.WireSegments.{WireSegments, wire_segments}
use Rattle.dna_links.specs.WireLinks.{WireLinks}
use Rattle.nsp_link.specs.declared.index.Index.{Index}
use Rattle.nsp_link.specs.inner.Index.{AreUsed, IsFoundAs, IsReleased, begins_use, counting, times, use_that_ends, use_that_stays}
use Rattle.nsp_link.specs.inner.Indexing.{AreIndexed}
use Rattle.nsp_link.specs.inner.Queue.{moved}
use Rattle.nsp_link.proofs.Change.{InPlace, link_there}
use Rattle.nsp_link.proofs.Indexed.{indexed_change, indexed_same}
use Rattle.nsp_link.proofs.Used.{link_some, released_with, used_if, used_settle, used_with}

pub calling_lives : (phase : Phase) → is_calling phase ≡ true → is_live phase ≡ true
calling_lives Calling e = refl
calling_lives Ended e = absurd (cc)
calling_lives Called e = refl
calling_lives Confirming e = refl
calling_lives Running e = refl
calling_lives Disconnecting e = refl

pub moves : (queues : Queues) (phase : Phase) (l : LinkOf WireSegments) → is_live l.port.phase ≡ true →
    goes_to wire_segments queues phase l ≡ moved queues phase l
moves Without phase l lives = refl
moves With phase l lives = ap (λ (b : Bool). goes_on wire_segments b phase l) lives

pub ends_port : (queues : Queues) (l : LinkOf WireSegments) → (ends_by_message wire_segments queues l).port ≡ record l.port { phase = Ended }
ends_port Without l = refl
ends_port With l = refl

pub drops_port : (queues : Queues) (l : LinkOf WireSegments) → (drops wire_segments queues l).port ≡ record l.port { phase = Ended }
drops_port Without l = refl
drops_port With l = refl

pub drops_use : (queues : Queues) (l : LinkOf WireSegments) → queues ≡ With → begins_use (drops wire_segments queues l) ≡ None
drops_use Without l with = absurd (cc)
drops_use With l with = go l.port.opened
  where
    -- a call that was given up was opened here
    go : (opened : Bool) → cond (is_live (port_of_waiting (call_of opened) (record l.port { phase = Ended })).phase && not opened) l.port.far None
        ≡ None
    go true = refl
    go false = refl

ends_by : (w : Option Phase) (queues : Queues) → queues ≡ With → (links : List (LinkOf WireSegments)) (n : ℕ) (l : LinkOf WireSegments)
    (used : ℕ → ℕ) → AreUsed queues links used → slice_get links n ≡ Some l → (far : ℕ) → use_that_ends w l ≡ Some far → 0 < used far
ends_by None queues with links n l used are there far e = absurd (cc)
ends_by (Some phase) queues with links n l used are there far e = link_some queues with links n l used are there far e

pub ends_some : (queues : Queues) → queues ≡ With → (links : List (LinkOf WireSegments)) (n : ℕ) (l : LinkOf WireSegments) (used : ℕ → ℕ) →
    AreUsed queues links used → slice_get links n ≡ Some l → (far : ℕ) → use_that_ends l.queue.waits l ≡ Some far → 0 < used far
ends_some queues with links n l used are there far e = ends_by l.queue.waits queues with links n l used are there far e

pub settled_index : {node peer : ℕ} {items : List (LinkOf WireSegments)} {s : WireLinks} {n : ℕ} {l m : LinkOf WireSegments}
    {index after : Index} → InPlace node peer items s n l → AreIndexed items index → IsFoundAs l m →
    begins_use m ≡ use_that_stays l.queue.waits l →
    ((q : ℕ) → get nat_cmp after.holders q ≡ get nat_cmp index.holders q) → ((q : ℕ) → get nat_cmp after.callers q ≡ get nat_cmp index.callers q) →
    ((q : ℕ) → times (hashed.get nat_eq after.reached q) ≡ times (hashed.get nat_eq index.reached q)) → after.waiting ≡ index.waiting →
    IsReleased (counting index.counts) (use_that_ends l.queue.waits l) (λ q. times (hashed.get nat_eq index.in_use q))
    (λ q. times (hashed.get nat_eq after.in_use q)) → after.counts ≡ index.counts → AreIndexed (set items n m) after
settled_index {node} {peer} {items} {s} {n} {l} {m} {index} {after} at are found left holders callers counts wait released kind = record {
  found = indexed_same (set items n m) _ _ _ _ (indexed_change items _ _ _ _ are.found n l m (link_there at) found) (set items n m) _ _ _ _ refl
      holders callers counts wait;
  used = used_if after.counts (set items n m) _ (λ on.
      used_settle With items n l m _ _ (used_with index.counts items _ (sym kind ∙ on) are.used) (link_there at) left
      (released_with index.counts _ _ _ (sym kind ∙ on) released));
}
