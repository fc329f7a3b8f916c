-- Which element a place has, once a list is changed.
use Rattle.accusing_segments.proofs.Prelude.{◌≡◌, ℕ, zero, suc, Some, List, [], ◌∷◌, ◌++◌, map, length, ap, refl, ◌⊎◌, inl, inr, slice_get}
use Rattle.accusing_segments.proofs.Prelude.{slice_set}

pub pushed_place : {X : Type 0} (xs : List X) (x : X) (i : ℕ) (y : X) → slice_get (xs ++ x ∷ []) i ≡ Some y →
    (slice_get xs i ≡ Some y) ⊎ ((i ≡ length xs) × (x ≡ y))
pushed_place {X} [] x zero y e = inr (refl, cc)
pushed_place {X} [] x (suc i) y e = absurd cc
pushed_place {X} (first ∷ xs) x zero y e = inl e
pushed_place {X} (first ∷ xs) x (suc i) y e = next (pushed_place xs x i y e)
  where
    next : (slice_get xs i ≡ Some y) ⊎ ((i ≡ length xs) × (x ≡ y)) →
        (slice_get (first ∷ xs) (suc i) ≡ Some y) ⊎ ((suc i ≡ length (first ∷ xs)) × (x ≡ y))
    next (inl there) = inl there
    next (inr last) = inr (ap suc last.0, last.1)

pub set_place : {X : Type 0} (xs : List X) (m : ℕ) (x : X) (i : ℕ) (y : X) → slice_get (slice_set xs m x) i ≡ Some y →
    ((slice_get xs i ≡ Some y) × (i ≡ m → ⊥)) ⊎ ((i ≡ m) × (x ≡ y))
set_place {X} [] m x i y e = absurd cc
set_place {X} (first ∷ xs) zero x zero y e = inr (refl, cc)
set_place {X} (first ∷ xs) zero x (suc i) y e = inl (e, λ same. absurd cc)
set_place {X} (first ∷ xs) (suc m) x zero y e = inl (e, λ same. absurd cc)
set_place {X} (first ∷ xs) (suc m) x (suc i) y e = next (set_place xs m x i y e)
  where
    next : ((slice_get xs i ≡ Some y) × (i ≡ m → ⊥)) ⊎ ((i ≡ m) × (x ≡ y)) →
        ((slice_get (first ∷ xs) (suc i) ≡ Some y) × (suc i ≡ suc m → ⊥)) ⊎ ((suc i ≡ suc m) × (x ≡ y))
    next (inl (there, other)) = inl (there, λ same. other cc)
    next (inr (same, this)) = inr (ap suc same, this)

pub mapped_place : {X Y : Type 0} (f : X → Y) (xs : List X) (i : ℕ) (y : Y) → slice_get (map f xs) i ≡ Some y →
    (x : X) × ((slice_get xs i ≡ Some x) × (f x ≡ y))
mapped_place {X} {Y} f [] i y e = absurd cc
mapped_place {X} {Y} f (first ∷ xs) zero y e = (first, (refl, cc))
mapped_place {X} {Y} f (first ∷ xs) (suc i) y e = mapped_place f xs i y e
