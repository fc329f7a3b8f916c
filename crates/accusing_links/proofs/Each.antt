-- What holds of each element of a list.
use Rattle.accusing_links.proofs.Prelude.{◌≡◌, ℕ, zero, suc, Some, List, [], ◌∷◌, ◌++◌, map, subst, slice_get, slice_set}

abbrev pub Each : {X : Type 0} → (X → Type 0) → List X → Type 0
Each P [] = Unit {0}
Each P (x ∷ xs) = P x × Each P xs

module _ {X : Type 0} (P : X → Type 0) where
  pub each_at : (xs : List X) (n : ℕ) (x : X) → Each P xs → slice_get xs n ≡ Some x → P x
  each_at [] n x all at = absurd cc
  each_at (first ∷ xs) zero x all at = let same : first ≡ x = cc in subst P same all.0
  each_at (first ∷ xs) (suc n) x all at = each_at xs n x all.1 at

  pub each_pushed : (xs : List X) (x : X) → Each P xs → P x → Each P (xs ++ x ∷ [])
  each_pushed [] x all is = (is, tt)
  each_pushed (first ∷ xs) x all is = (all.0, each_pushed xs x all.1 is)

  pub each_changed : (xs : List X) (n : ℕ) (x : X) → Each P xs → P x → Each P (slice_set xs n x)
  each_changed [] n x all is = tt
  each_changed (first ∷ xs) zero x all is = (is, all.1)
  each_changed (first ∷ xs) (suc n) x all is = (all.0, each_changed xs n x all.1 is)

  pub each_more : (Q : X → Type 0) → ((x : X) → P x → Q x) → (xs : List X) → Each P xs → Each Q xs
  each_more Q more [] all = tt
  each_more Q more (x ∷ xs) all = (more x all.0, each_more Q more xs all.1)

  pub each_mapped : (f : X → X) → ((x : X) → P x → P (f x)) → (xs : List X) → Each P xs → Each P (map f xs)
  each_mapped f keeps [] all = tt
  each_mapped f keeps (x ∷ xs) all = (keeps x all.0, each_mapped f keeps xs all.1)
