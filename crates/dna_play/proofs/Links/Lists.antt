-- An item that is set where it stands, and the first item of a list that passes a test.
use Rattle.dna_play.proofs.Prelude.{◌≡◌, refl, ℕ, suc, ◌+◌, ◌<◌, ◌≤◌, Bool, true, false, not, ltb, cond, Option, Some, None, List, ◌∷◌, length}
use Rattle.dna_play.proofs.Prelude.{position, subst, ap, arith, lt-ltb, le-ltb, ◌⊎◌, inl, inr, option_map, slice_get, slice_set, prefix_len}
use Rattle.dna_play.proofs.Prelude.{cases_lt, get_or_from_slice_get, set-get_or}

-- ---- one item

module _ {X : Type 0} where
  -- an item that is set where it stands
  pub set_back : (xs : List X) (n : ℕ) (x : X) → slice_get xs n ≡ Some x → slice_set xs n x ≡ xs
  set_back xs n x at = subst (λ (y : X). slice_set xs n y ≡ xs) (get_or_from_slice_get xs n x x at) (set-get_or xs n x)

-- ---- the first item that is found

module _ {X : Type 0} (test : X → Bool) where
  -- it is this place, so far in front of the end
  abbrev found_at : (place count : ℕ) → Option ℕ
  found_at place count = cond (ltb place count) (Some place) None

  abbrev first_of : List X → ℕ
  first_of xs = prefix_len (λ (y : X). not (test y)) xs

  pub position_here : (x : X) (xs : List X) → test x ≡ true → position test (x ∷ xs) ≡ Some 0
  position_here x xs passes = rw (passes, lt-ltb 0 (suc (length xs)) (omega arith)) refl

  later : (k count : ℕ) → found_at (1 + k) (suc count) ≡ option_map suc (found_at k count)
  later k count = go (cases_lt k count)
    where
      next : 1 + k ≡ suc k
      next = omega arith

      go : (k < count) ⊎ (count ≤ k) → found_at (1 + k) (suc count) ≡ option_map suc (found_at k count)
      go (inl l) = rw (lt-ltb (1 + k) (suc count) (omega arith), lt-ltb k count l) (ap Some next)
      go (inr m) = rw (le-ltb (1 + k) (suc count) (omega arith), le-ltb k count m) refl

  pub position_later : (x : X) (xs : List X) → test x ≡ false → position test (x ∷ xs) ≡ option_map suc (position test xs)
  position_later x xs fails = rw fails (later (first_of xs) (length xs))
