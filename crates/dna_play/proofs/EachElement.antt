-- What holds of every element of a list, and still does where an element is changed, added or dropped.
use Rattle.dna_play.proofs.Prelude.{◌≡◌, ℕ, zero, suc, Some, List, [], ◌∷◌, ◌++◌, subst, drop, slice_get, slice_set, AllByRecursion, remove}

module _ {X : Type 0} (P : X → Type 0) where
  abbrev All : List X → Type 0
  All xs = AllByRecursion P xs

  pub left_all : (n : ℕ) (xs : List X) → All xs → All (drop n xs)
  left_all zero xs h = h
  left_all (suc n) [] h = tt
  left_all (suc n) (x ∷ xs) h = left_all n xs h.1

  pub first_all : (xs ys : List X) → All (xs ++ ys) → All xs
  first_all [] ys h = tt
  first_all (x ∷ xs) ys h = (h.0, first_all xs ys h.1)

  pub more_all : (xs ys : List X) → All xs → All ys → All (xs ++ ys)
  more_all [] ys h k = k
  more_all (x ∷ xs) ys h k = (h.0, more_all xs ys h.1 k)

  pub there : (xs : List X) (place : ℕ) (x : X) → All xs → slice_get xs place ≡ Some x → P x
  there [] place x h at = absurd cc
  there (first ∷ later) zero x h at = subst P (cc at) h.0
  there (first ∷ later) (suc place) x h at = there later place x h.1 at

  pub with_all : (xs : List X) (place : ℕ) (x : X) → All xs → P x → All (slice_set xs place x)
  with_all [] place x h fits = tt
  with_all (first ∷ later) zero x h fits = (fits, h.1)
  with_all (first ∷ later) (suc place) x h fits = (h.0, with_all later place x h.1 fits)

  pub without_all : (xs : List X) (place : ℕ) → All xs → All (remove xs place)
  without_all [] zero h = tt
  without_all [] (suc place) h = tt
  without_all (x ∷ xs) zero h = h.1
  without_all (x ∷ xs) (suc place) h = (h.0, without_all xs place h.1)
