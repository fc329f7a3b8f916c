-- Of how many links that a CI began something may still be sent, where a link changes, ends or begins.
use Rattle.std.proofs.Common.{◌≡◌, ℕ, suc, ◌+◌, ◌<◌, ◌≤◌, Bool, true, false, ◌&&◌, not, cond, Option, Some, None, List, [], ◌∷◌, ◌++◌, length}
use Rattle.std.proofs.Common.{set, refl, sym, ap, ◌∙◌, arith, eqb}
use Rattle.std.specs.Prelude.{slice_get}
use Rattle.dna_links.specs.declared.port.Phase.{Phase}
use Rattle.dna_links.specs.declared.queue.Queues.{Queues}
use Rattle.dna_links.specs.declared.queue.Queues.TheVariants.{Without, With}
use Rattle.dna_links.specs.LookUps.{is_at, is_live}
use Rattle.dna_links.specs.Links.{LinkOf}
use Rattle.dna_links.specs.WireSegments.{WireSegments}
use Rattle.nsp_link.specs.inner.Index.{AreUsed, IsReleased, IsTaken, Stays, begins_use, counted, counting, forgotten_at, forgotten_found}
use Rattle.nsp_link.specs.inner.Index.{held_use, look_in, use_that_ends, use_that_stays, used_by, uses}
use Rattle.nsp_link.specs.inner.Queue.{forgotten_link}
use Rattle.nsp_link.proofs.LookUps.{eq-is_at}
use Rattle.nsp_link.proofs.Counting.{bit, counted_all, counted_push, counted_set, counted_some}

with_bit : (b : Bool) (k q : ℕ) → cond b (suc k) k ≡ q → q ≡ k + bit b
with_bit true k q e = omega arith
with_bit false k q e = omega arith

pub uses_same : {D : Type 0} (l m : LinkOf D) → Stays l m → begins_use m ≡ begins_use l
uses_same l m s =
    ap (λ (b : Bool). cond (b && not m.port.opened) m.port.far None) s.used
    ∙ ap (λ (b : Bool). cond (uses l && not b) m.port.far None) s.found.opened
    ∙ ap (λ (f : Option ℕ). cond (uses l && not l.port.opened) f None) s.found.far

none_by : (u o : Bool) (f : Option ℕ) → o ≡ true → cond (u && not o) f None ≡ None
none_by true true f e = refl
none_by false true f e = refl
none_by u false f e = absurd (cc)

-- ---- what is counted, and what is not

pub used_with : {D : Type 0} (b : Bool) (links : List (LinkOf D)) (used : ℕ → ℕ) → b ≡ true → AreUsed (counting b) links used →
    AreUsed With links used
used_with true links used on are = are
used_with false links used on are = absurd (cc)

pub used_if : {D : Type 0} (b : Bool) (links : List (LinkOf D)) (used : ℕ → ℕ) → (b ≡ true → AreUsed With links used) →
    AreUsed (counting b) links used
used_if true links used are = are refl
used_if false links used are = tt

pub released_with : (b : Bool) (known : Option ℕ) (before after : ℕ → ℕ) → b ≡ true → IsReleased (counting b) known before after →
    IsReleased With known before after
released_with true known before after on released = released
released_with false known before after on released = absurd (cc)

pub taken_with : (b : Bool) (far : ℕ) (before after : ℕ → ℕ) → b ≡ true → IsTaken (counting b) far before after → IsTaken With far before after
taken_with true far before after on taken = taken
taken_with false far before after on taken = absurd (cc)

-- no link uses anything
pub used_none : {D : Type 0} (links : List (LinkOf D)) (used : ℕ → ℕ) → length links ≡ 0 → ((q : ℕ) → used q ≡ 0) → AreUsed With links used
used_none [] used none nothing = nothing
used_none (l ∷ links) used none nothing = absurd (omega arith)

-- one that was opened here
pub opened_uses : {D : Type 0} (l : LinkOf D) → l.port.opened ≡ true → begins_use l ≡ None
opened_uses l e = none_by (uses l) l.port.opened l.port.far e

-- one of which nothing may be sent
pub unused : {D : Type 0} (l : LinkOf D) → uses l ≡ false → begins_use l ≡ None
unused l e = ap (λ (b : Bool). cond (b && not l.port.opened) l.port.far None) e

module _ {D : Type 0} where
  pub used_same : (queues : Queues) (links others : List (LinkOf D)) (used used' : ℕ → ℕ) → AreUsed queues links used → others ≡ links →
      ((q : ℕ) → used' q ≡ used q) → AreUsed queues others used'
  used_same Without links others used used' are same counts = tt
  used_same With links others used used' are same counts = λ far. counts far ∙ are far ∙ ap (counted (used_by far)) (sym same)

  pub used_change : (queues : Queues) (links : List (LinkOf D)) (n : ℕ) (l m : LinkOf D) (used used' : ℕ → ℕ) → AreUsed queues links used →
      slice_get links n ≡ Some l → begins_use m ≡ begins_use l → ((q : ℕ) → used' q ≡ used q) → AreUsed queues (set links n m) used'
  used_change Without links n l m used used' are there same counts = tt
  used_change With links n l m used used' are there same counts = λ far.
      let changed = counted_set (used_by far) links n l m there in
      let bits = ap (λ (o : Option ℕ). bit (is_at o far)) same in
      let before = are far in
      let count = counts far in
      omega arith

  pub used_change_with : (queues : Queues) (links : List (LinkOf D)) (n : ℕ) (l m : LinkOf D) (used used' : ℕ → ℕ) → AreUsed queues links used →
      slice_get links n ≡ Some l → (queues ≡ With → begins_use m ≡ begins_use l) → ((q : ℕ) → used' q ≡ used q) →
      AreUsed queues (set links n m) used'
  used_change_with Without links n l m used used' are there same counts = tt
  used_change_with With links n l m used used' are there same counts = used_change With links n l m used used' are there (same refl) counts

  -- nothing of it may be sent any more
  pub used_end : (queues : Queues) (links : List (LinkOf D)) (n : ℕ) (l m : LinkOf D) (used used' : ℕ → ℕ) → AreUsed queues links used →
      slice_get links n ≡ Some l → (queues ≡ With → begins_use m ≡ None) → IsReleased queues (begins_use l) used used' →
      AreUsed queues (set links n m) used'
  used_end Without links n l m used used' are there none released = tt
  used_end With links n l m used used' are there none released = λ far.
      let changed = counted_set (used_by far) links n l m there in
      let bits = ap (λ (o : Option ℕ). bit (is_at o far)) (none refl) in
      let before = are far in
      let after = with_bit (is_at (begins_use l) far) (used' far) (used far) (released far) in
      omega arith

  -- a DC with its own address
  settle_by : (w : Option Phase) (queues : Queues) (links : List (LinkOf D)) (n : ℕ) (l m : LinkOf D)
      (used used' : ℕ → ℕ) → AreUsed queues links used →
      slice_get links n ≡ Some l → begins_use m ≡ use_that_stays w l → IsReleased queues (use_that_ends w l) used used' →
      AreUsed queues (set links n m) used'
  settle_by w Without links n l m used used' are there left released = tt
  settle_by None With links n l m used used' are there left released = used_change With links n l m used used' are there left released
  settle_by (Some phase) With links n l m used used' are there left released = used_end With links n l m used used' are there (λ _. left) released

  pub used_settle : (queues : Queues) (links : List (LinkOf D)) (n : ℕ) (l m : LinkOf D) (used used' : ℕ → ℕ) → AreUsed queues links used →
      slice_get links n ≡ Some l → begins_use m ≡ use_that_stays l.queue.waits l → IsReleased queues (use_that_ends l.queue.waits l) used used' →
      AreUsed queues (set links n m) used'
  used_settle queues links n l m used used' are there left released = settle_by l.queue.waits queues links n l m used used' are there left released

  pub used_push : (queues : Queues) (links : List (LinkOf D)) (m : LinkOf D) (used used' : ℕ → ℕ) → AreUsed queues links used →
      begins_use m ≡ None → ((q : ℕ) → used' q ≡ used q) → AreUsed queues (links ++ m ∷ []) used'
  used_push Without links m used used' are none counts = tt
  used_push With links m used used' are none counts = λ far.
      let pushed = counted_push (used_by far) links m in
      let bits = ap (λ (o : Option ℕ). bit (is_at o far)) none in
      let before = are far in
      let count = counts far in
      omega arith

  pub used_call : (queues : Queues) (links : List (LinkOf D)) (m : LinkOf D) (far : ℕ) (used used' : ℕ → ℕ) → AreUsed queues links used →
      begins_use m ≡ Some far → IsTaken queues far used used' → AreUsed queues (links ++ m ∷ []) used'
  used_call Without links m far used used' are begins taken = tt
  used_call With links m far used used' are begins taken = λ q.
      let pushed = counted_push (used_by q) links m in
      let bits = ap (λ (o : Option ℕ). bit (is_at o q)) begins in
      let before = are q in
      let count = with_bit (eqb far q) (used q) (used' q) (sym (taken q)) in
      omega arith

  pub some_used : (queues : Queues) (links : List (LinkOf D)) (n far : ℕ) (l : LinkOf D) (used : ℕ → ℕ) → queues ≡ With → AreUsed queues links used →
      slice_get links n ≡ Some l → used_by far l ≡ true → 0 < used far
  some_used Without links n far l used with are there by = absurd (cc)
  some_used With links n far l used with are there by =
      let one = counted_some (used_by far) links n l there by in
      let before = are far in
      omega arith

  pub few_used : (queues : Queues) → queues ≡ With → (links : List (LinkOf D)) (far : ℕ) (used : ℕ → ℕ) → AreUsed queues links used →
      used far ≤ length links
  few_used Without with links far used are = absurd (cc)
  few_used With with links far used are =
      let all = counted_all (used_by far) links in
      let before = are far in
      omega arith

-- ---- an own address that is given again

forgets_by : (links : List (LinkOf WireSegments)) (n : ℕ) (o : Option (LinkOf WireSegments)) (used used' : ℕ → ℕ) →
    AreUsed With links used → slice_get links n ≡ o → ((l : LinkOf WireSegments) → o ≡ Some l → begins_use (forgotten_link With l) ≡ None) →
    IsReleased With (look_in begins_use o) used used' → AreUsed With (forgotten_found With n o links) used'
forgets_by links n None used used' are is dead released = λ far. released far ∙ are far
forgets_by links n (Some l) used used' are is dead released =
    used_end With links n l (forgotten_link With l) used used' are is (λ _. dead l refl) released

pub used_forgets : (queues : Queues) (links : List (LinkOf WireSegments)) (holder : Option ℕ) (used used' : ℕ → ℕ) → AreUsed queues links used →
    ((n : ℕ) (l : LinkOf WireSegments) → holder ≡ Some n → slice_get links n ≡ Some l → begins_use (forgotten_link With l) ≡ None) →
    IsReleased queues (held_use holder links) used used' → AreUsed queues (forgotten_at queues holder links) used'
used_forgets Without links holder used used' are dead released = tt
used_forgets With links None used used' are dead released = λ far. released far ∙ are far
used_forgets With links (Some n) used used' are dead released =
    forgets_by links n (slice_get links n) used used' are refl (λ l there. dead n l refl there) released

-- a link that has ended uses nothing once its address is given again
pub dead_unused : (l : LinkOf WireSegments) → is_live l.port.phase ≡ false → begins_use (forgotten_link With l) ≡ None
dead_unused l e = unused (forgotten_link With l) e

held_by : (links : List (LinkOf WireSegments)) (n : ℕ) (o : Option (LinkOf WireSegments)) (used : ℕ → ℕ) (far : ℕ) → AreUsed With links used →
    slice_get links n ≡ o → look_in begins_use o ≡ Some far → 0 < used far
held_by links n None used far are is e = absurd (cc)
held_by links n (Some l) used far are is e = some_used With links n far l used refl are is (eq-is_at (begins_use l) far e)

pub held_some : (queues : Queues) → queues ≡ With → (links : List (LinkOf WireSegments)) (holder : Option ℕ) (used : ℕ → ℕ) →
    AreUsed queues links used → (far : ℕ) → held_use holder links ≡ Some far → 0 < used far
held_some Without with links holder used are far e = absurd (cc)
held_some With with links None used are far e = absurd (cc)
held_some With with links (Some n) used are far e = held_by links n (slice_get links n) used far are refl e

pub link_some : (queues : Queues) → queues ≡ With → (links : List (LinkOf WireSegments)) (n : ℕ) (l : LinkOf WireSegments) (used : ℕ → ℕ) →
    AreUsed queues links used → slice_get links n ≡ Some l → (far : ℕ) → begins_use l ≡ Some far → 0 < used far
link_some queues with links n l used are there far e = some_used queues links n far l used with are there (eq-is_at (begins_use l) far e)
