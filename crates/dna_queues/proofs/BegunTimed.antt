-- A link begins, in the machine and in the node with queues.
use Rattle.dna_queues.proofs.Prelude.{◌≡◌, ℕ, zero, suc, true, false, ◌⊎◌, inl, inr, Option, Some, None, List, [], ◌∷◌, ◌++◌, length, refl, sym, ap}
use Rattle.dna_queues.proofs.Prelude.{◌∙◌, arith, length-append, slice_get, at_pushed, is_at, Carried, begun, Node, waiting, link_it_is_for}
use Rattle.dna_links.specs.TrueLinks as machine
use Rattle.dna_queues.proofs.{Goes.Link, Goes.phase_of, Turns.Sane, Early.CanGo, Early.AreEarly, Hide.hide, Timed.Awaits, Timed.Timed}
use Rattle.dna_queues.proofs.{LinkLists.pushed_each}
use Rattle.dna_queues.proofs.Dues.{none_link, Due, went_can, IsDue, AreDue, AreSane}

there_still : {X : Type 0} (xs : List X) (y x : X) (i : ℕ) → slice_get xs i ≡ Some x → slice_get (xs ++ y ∷ []) i ≡ Some x
there_still [] y x i at = absurd cc
there_still (z ∷ xs) y x zero at = at
there_still (z ∷ xs) y x (suc i) at = there_still xs y x i at

there_last : {X : Type 0} (xs : List X) (y : X) → slice_get (xs ++ y ∷ []) (length xs) ≡ Some y
there_last [] y = refl
there_last (z ∷ xs) y = there_last xs y

module _ (s : machine.Links) (k : Link) where
  pub begun_sane : AreSane s → Sane k → is_at k.port.own 0 ≡ false →
      ((i : ℕ) (x : Link) (n : ℕ) → slice_get s.links i ≡ Some x → is_at x.port.own n ≡ true → is_at k.port.own n ≡ true → ⊥) → AreSane (begun k s)
  begun_sane sane is not_zero free = record {
    unique = λ i j x y at_i at_j n own_x own_y. unique i j x y n own_x own_y (at_pushed s.links k x i at_i) (at_pushed s.links k y j at_j);
    each = pushed_each s.links k (λ i x. Sane x) sane.each is;
    not_zero = pushed_each s.links k (λ i x. is_at x.port.own 0 ≡ false) sane.not_zero not_zero;
  }
    where
      unique : (i j : ℕ) (x y : Link) (n : ℕ) → is_at x.port.own n ≡ true → is_at y.port.own n ≡ true →
          (slice_get s.links i ≡ Some x) ⊎ ((i ≡ length s.links) × (k ≡ x)) → (slice_get s.links j ≡ Some y) ⊎ ((j ≡ length s.links) × (k ≡ y)) →
          i ≡ j
      unique i j x y n own_x own_y (inl p) (inl q) = sane.unique i j x y p q n own_x own_y
      unique i j x y n own_x own_y (inl p) (inr q) = absurd (free i x n p own_x (ap (λ (z : Link). is_at z.port.own n) q.1 ∙ own_y))
      unique i j x y n own_x own_y (inr p) (inl q) = absurd (free j y n q own_y (ap (λ (z : Link). is_at z.port.own n) p.1 ∙ own_x))
      unique i j x y n own_x own_y (inr p) (inr q) = p.0 ∙ sym q.0

  -- nothing is due of it
  module _ (none : (packets : List Carried) (P : Link → Type 0) → AreEarly (phase_of k) packets → CanGo s.node s.peer packets k P → packets ≡ [])
      (dues : ℕ → Due) (due : AreDue (begun k s) dues) where
    last_due : IsDue s.node s.peer k (dues (length s.links))
    last_due = due.each (length s.links) k (there_last s.links k)

    none_due : (dues (length s.links)).packets ≡ []
    none_due = none (dues (length s.links)).packets (λ x. x ≡ (dues (length s.links)).link) last_due.early last_due.can

    last_link : k ≡ (dues (length s.links)).link
    last_link = none_link s.node s.peer k (dues (length s.links)) last_due none_due

    pub begun_due : AreDue s dues
    begun_due = record {
      each = λ i x at. due.each i x (there_still s.links k x i at);
      beyond = λ i missing. go i missing (slice_get (s.links ++ k ∷ []) i) refl;
    }
      where
        go : (i : ℕ) → slice_get s.links i ≡ None → (o : Option Link) → slice_get (s.links ++ k ∷ []) i ≡ o → (dues i).packets ≡ []
        go i none None e = due.beyond i e
        go i none (Some x) e =
            pushed_each s.links k (λ i x. slice_get s.links i ≡ None → (dues i).packets ≡ [])
            (λ i x p none. let never : None ≡ Some x = sym none ∙ p in absurd cc) (λ none. none_due) i x e none

    pub begun_timed : (n : Node) → Timed s dues n → Awaits k (waiting link_it_is_for k.port.own n.kept) →
        Timed (begun k s) dues (record n { links = begun (hide k) n.links })
    begun_timed n t awaits = record {
      node = t.node;
      peer = t.peer;
      size = let p = length-append n.links.links (hide k ∷ []) in let q = length-append s.links (k ∷ []) in let r = t.size in omega (arith, p, q, r);
      all = pushed_each s.links k (λ i x. slice_get (n.links.links ++ hide k ∷ []) i ≡ Some (hide (dues i).link))
          (λ i x p. there_still n.links.links (hide k) (hide (dues i).link) i (t.all i x p))
          (ap (slice_get (n.links.links ++ hide k ∷ [])) (sym t.size) ∙ there_last n.links.links (hide k)
          ∙ ap (λ (z : Link). Some (hide z)) last_link);
      went = λ i x at. let d = due.each i x at in went_can s.node s.peer (dues i).packets x (dues i).link d.can;
      kept = t.kept;
      awaits = pushed_each s.links k (λ i x. Awaits x (waiting link_it_is_for x.port.own n.kept)) t.awaits awaits;
      composed = t.composed;
    }
