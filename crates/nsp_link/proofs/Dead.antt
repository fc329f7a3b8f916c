-- Links that a boot has ended for good stay so, whatever becomes of the others.
use Rattle.std.proofs.Common.{◌≡◌, ℕ, zero, suc, ◌+◌, ◌<◌, ◌≤◌, Bool, true, false, ◌||◌, Option, Some, None, Result, Ok, Err, OnOk, OnErr, List}
use Rattle.std.proofs.Common.{[], ◌∷◌, ◌++◌, length, set, refl, sym, subst, ap, ◌∙◌, arith}
use Rattle.std.specs.Prelude.{slice_get}
use Rattle.dna_links.specs.declared.port.Phase.{Phase}
use Rattle.dna_links.specs.declared.queue.Queues.{Queues}
use Rattle.dna_links.specs.declared.queue.Queues.TheVariants.{Without, With}
use Rattle.dna_links.specs.declared.queue.Said.{Said}
use Rattle.dna_links.specs.LookUps.{is_called, is_live}
use Rattle.dna_links.specs.Links.{LinkOf}
use Rattle.dna_links.specs.Queues.{has_waiting, lets_go, settled, shows, shows_by}
use Rattle.dna_links.specs.WireSegments.{WireSegments, wire_segments}
use Rattle.dna_links.specs.Segmentation.{in_order}
use Rattle.dna_links.specs.WireLinks.{WireLinks}
use Rattle.nsp_link.specs.inner.Index.{forgotten_at, forgotten_found}
use Rattle.nsp_link.specs.inner.Indexing.{AreDead, IsDead, KeepsAt, LivesAt}
use Rattle.nsp_link.specs.inner.Queue.{forgotten_link, keeps}
use Rattle.nsp_link.proofs.Change.{InPlace, link_found, link_there}
use Rattle.nsp_link.proofs.Forgotten.{length_push}
use Rattle.nsp_link.proofs.Found.{some_there}
use Rattle.nsp_link.proofs.Indexed.{length_set}
use Rattle.nsp_link.proofs.LookUps.{called_lives}

-- ---- what it does not do

pub dead_ended : {A : Type 0} (l : LinkOf WireSegments) → IsDead l → is_live l.port.phase ≡ true → A
dead_ended l dead lives = let over : false ≡ true = ap is_live (sym dead.over) ∙ lives in absurd (cc)

pub keeps_none : (l : LinkOf WireSegments) → IsDead l → keeps l.port.phase l.queue ≡ false
keeps_none l dead =
    ap (λ (p : Phase). is_live p || has_waiting l.queue.waits l.queue.said) dead.over
    ∙ ap (λ (w : Option Phase). has_waiting w l.queue.said) dead.settled

dead_lost : {A : Type 0} (l : LinkOf WireSegments) → IsDead l → keeps l.port.phase l.queue ≡ true → A
dead_lost l dead kept = let none : false ≡ true = sym (keeps_none l dead) ∙ kept in absurd (cc)

-- ---- one of the links changes

module _ {R : Type 0} (m link : LinkOf WireSegments) where
  set_seen : (xs : List (LinkOf WireSegments)) (n k : ℕ) → slice_get (set xs n m) k ≡ Some link → (k ≡ n → m ≡ link → R) →
      ((k ≡ n → ⊥) → slice_get xs k ≡ Some link → R) → R
  set_seen [] n zero e here there = absurd (cc)
  set_seen [] n (suc k) e here there = absurd (cc)
  set_seen (x ∷ xs) zero zero e here there = here refl (cc)
  set_seen (x ∷ xs) zero (suc k) e here there = there (λ same. omega arith) e
  set_seen (x ∷ xs) (suc n) zero e here there = there (λ same. omega arith) e
  set_seen (x ∷ xs) (suc n) (suc k) e here there =
      set_seen xs n k e (λ same. here (ap suc same)) (λ apart. there (λ same. apart (omega arith)))

  push_seen : (xs : List (LinkOf WireSegments)) (k : ℕ) → slice_get (xs ++ m ∷ []) k ≡ Some link → k < length xs →
      (slice_get xs k ≡ Some link → R) → R
  push_seen [] k e low there = absurd (omega arith)
  push_seen (x ∷ xs) zero e low there = there e
  push_seen (x ∷ xs) (suc k) e low there = push_seen xs k e (omega arith) there

module _ (b : ℕ) (xs : List (LinkOf WireSegments)) (m : LinkOf WireSegments) (are : AreDead b xs) where
  pub dead_set : (n : ℕ) → (n < b → IsDead m) → AreDead b (set xs n m)
  dead_set n dead = record {
    few = few_set;
    each = λ k link low there.
        set_seen m link xs n k there (λ same is. subst IsDead is (dead (subst (λ (q : ℕ). q < b) same low))) (λ apart. are.each k link low);
  } where
    few_set : b ≤ length (set xs n m)
    few_set = let same = length_set xs n m in let before = are.few in omega arith

  -- one more is dead
  pub dead_more : b < length xs → IsDead m → AreDead (b + 1) (set xs b m)
  dead_more within dead = record {
    few = few_more;
    each = λ k link low there.
        set_seen m link xs b k there (λ same is. subst IsDead is dead) (λ apart. are.each k link (below (b) k low apart));
  } where
    few_more : b + 1 ≤ length (set xs b m)
    few_more = let same = length_set xs b m in omega arith

    below : (n k : ℕ) → k < n + 1 → (k ≡ n → ⊥) → k < n
    below zero zero low apart = absurd (apart refl)
    below zero (suc k) low apart = absurd (omega arith)
    below (suc n) zero low apart = omega arith
    below (suc n) (suc k) low apart = let rest = below n k (omega arith) (λ same. apart (ap suc same)) in omega arith

  pub dead_push : AreDead b (xs ++ m ∷ [])
  dead_push = record {
    few = few_push;
    each = λ k link low there. let before = are.few in push_seen m link xs k there (omega arith) (are.each k link low);
  } where
    few_push : b ≤ length (xs ++ m ∷ [])
    few_push = let longer = length_push xs m in let before = are.few in omega arith

module _ {node peer : ℕ} {items : List (LinkOf WireSegments)} {s : WireLinks} {n b : ℕ} {l : LinkOf WireSegments}
    (at : InPlace node peer items s n l) (m : LinkOf WireSegments) where
  pub dead_same : (IsDead l → IsDead m) → AreDead b items → AreDead b (set items n m)
  dead_same stays are = dead_set b items m are n (λ low. stays (are.each n l low (link_there at)))

  pub dead_lives : LivesAt n s → AreDead b items → AreDead b (set items n m)
  dead_lives lives are = dead_same (λ dead. dead_ended l dead (lives l (link_found at))) are

  pub dead_kept : KeepsAt n s → AreDead b items → AreDead b (set items n m)
  dead_kept kept are = dead_same (λ dead. dead_lost l dead (kept l (link_found at))) are

-- ---- what is asked of no link in particular

shown_by : (said : Said) (w : Option Phase) (l : LinkOf WireSegments) → IsDead l → l.queue.waits ≡ w → IsDead (shows wire_segments said l)
shown_by said w l dead is = record {
  over = dead.over;
  unowned = dead.unowned;
  bare = ap (λ (before : Bool). lets_go wire_segments before (keeps l.port.phase (shows wire_segments said l).queue) l.segments)
      (keeps_none l dead) ∙ dead.bare;
  settled = dead.settled;
}

pub shown_dead : (said : Said) (l m : LinkOf WireSegments) → m ≡ shows wire_segments said l → IsDead l → IsDead m
shown_dead said l m is dead = subst IsDead (sym is) (shown_by said None l dead dead.settled)

settled_by : (l : LinkOf WireSegments) → IsDead l → l ≡ settled wire_segments l.queue.waits l
settled_by l dead =
    ap (λ (p : Phase). shows_by wire_segments p l) (sym dead.over)
    ∙ ap (λ (w : Option Phase). settled wire_segments w l) (sym dead.settled)

pub settled_dead : (l m : LinkOf WireSegments) → m ≡ settled wire_segments l.queue.waits l → IsDead l → IsDead m
settled_dead l m is dead = subst IsDead (settled_by l dead ∙ sym is) dead

-- it has no piece that may be delivered
pub delivered_dead : {A : Type 0} (count : ℕ) (l : LinkOf WireSegments) → 1 ≤ count → count ≤ in_order l.segments.variables.pieces → IsDead l → A
delivered_dead count l some few dead =
    let none : in_order l.segments.variables.pieces ≡ 0 = ap (λ (f : WireSegments). in_order f.variables.pieces) dead.bare in
    absurd (omega arith)

-- ---- links that begin or are answered

forgotten_dead : (queues : Queues) (l : LinkOf WireSegments) → IsDead l → IsDead (forgotten_link queues l)
forgotten_dead Without l dead = record { over = dead.over; unowned = refl; bare = refl; settled = dead.settled }
forgotten_dead With l dead = record { over = dead.over; unowned = refl; bare = refl; settled = refl }

forgets_by : (queues : Queues) (b n : ℕ) (xs : List (LinkOf WireSegments)) (o : Option (LinkOf WireSegments)) → slice_get xs n ≡ o → AreDead b xs →
    AreDead b (forgotten_found queues n o xs)
forgets_by queues b n xs None is are = are
forgets_by queues b n xs (Some l) is are = dead_set b xs (forgotten_link queues l) are n (λ low. forgotten_dead queues l (are.each n l low is))

dead_forgotten : (queues : Queues) (b : ℕ) (holder : Option ℕ) (xs : List (LinkOf WireSegments)) → AreDead b xs →
    AreDead b (forgotten_at queues holder xs)
dead_forgotten queues b None xs are = are
dead_forgotten queues b (Some n) xs are = forgets_by queues b n xs (slice_get xs n) refl are

module _ {A E : Type 0} {b : ℕ} {xs ys : List (LinkOf WireSegments)} where
  by_result : (r : Result A E) (zs : List (LinkOf WireSegments)) → OnOk r (ys ≡ zs) → OnErr r (ys ≡ xs) → AreDead b zs → AreDead b xs → AreDead b ys
  by_result (Ok made) zs ok err new old = subst (AreDead b) (sym ok) new
  by_result (Err refused) zs ok err new old = subst (AreDead b) (sym err) old

  pub dead_begun : (m : LinkOf WireSegments) (r : Result A E) → OnOk r (ys ≡ xs ++ m ∷ []) → OnErr r (ys ≡ xs) → AreDead b xs → AreDead b ys
  dead_begun m r ok err are = by_result r (xs ++ m ∷ []) ok err (dead_push b xs m are) are

  pub dead_opened : (m : LinkOf WireSegments) (queues : Queues) (holder : Option ℕ) (r : Result A E) →
      OnOk r (ys ≡ forgotten_at queues holder xs ++ m ∷ []) → OnErr r (ys ≡ xs) → AreDead b xs → AreDead b ys
  dead_opened m queues holder r ok err are =
      by_result r (forgotten_at queues holder xs ++ m ∷ []) ok err (dead_push b _ m (dead_forgotten queues b holder xs are)) are

  pub dead_answered : (queues : Queues) (holder : Option ℕ) (n : ℕ) (answered : LinkOf WireSegments → LinkOf WireSegments) (r : Result A E) →
      n < length xs → ((link : LinkOf WireSegments) → slice_get xs n ≡ Some link → is_called link.port.phase ≡ true) →
      ((link : LinkOf WireSegments) → slice_get xs n ≡ Some link → OnOk r (ys ≡ set (forgotten_at queues holder xs) n (answered link))) →
      OnErr r (ys ≡ xs) → AreDead b xs → AreDead b ys
  dead_answered queues holder n answered r within called ok err are = there_by (slice_get xs n) refl where
    there_by : (o : Option (LinkOf WireSegments)) → slice_get xs n ≡ o → AreDead b ys
    there_by None is = absurd (some_there xs n within is)
    there_by (Some l) is =
        by_result r (set (forgotten_at queues holder xs) n (answered l)) (ok l is) err
        (dead_set b _ (answered l) (dead_forgotten queues b holder xs are) n
        (λ low. dead_ended l (are.each n l low is) (called_lives l.port.phase (called l is)))) are
