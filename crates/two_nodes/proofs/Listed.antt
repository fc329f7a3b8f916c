-- Beginnings as lists of their own, and as the first so many records
use Rattle.std.proofs.Common.{◌≡◌, ◌≤◌, List, [], ◌∷◌, ◌++◌, refl, sym, subst, Some, ℕ, length, take, drop, arith}
use Rattle.std.specs.Prelude.{slice_get, zero, suc}
use Rattle.std.proofs.lemmas.List.{length-append}
use Rattle.std.proofs.Math.Seq.{take-append_seam}
use Rattle.two_nodes.specs.Nodes.{Nodes, World, Run, advance, start_world}
use Rattle.two_nodes.specs.Nodes.Outcome.{Refused}
use Rattle.two_nodes.specs.Past.{BothTell, Offends}
use Rattle.two_nodes.proofs.Blame.{offends}

module _ {X : Type 0} where
  -- the element behind a beginning
  pub next_at : (xs ys : List X) (x : X) → slice_get (xs ++ x ∷ ys) (length xs) ≡ Some x
  next_at [] ys x = refl
  next_at (y ∷ xs) ys x = next_at xs ys x

  -- an element divides its list
  pub divided : (xs : List X) (n : ℕ) (x : X) → slice_get xs n ≡ Some x → take n xs ++ x ∷ drop (suc n) xs ≡ xs
  divided [] n x at = cc
  divided (y ∷ xs) zero x at = cc
  divided (y ∷ xs) (suc n) x at = let e = divided xs n x at in cc

  pub taken_and_next : (xs : List X) (n : ℕ) (x : X) → slice_get xs n ≡ Some x → take (suc n) xs ≡ take n xs ++ x ∷ []
  taken_and_next [] n x at = cc
  taken_and_next (y ∷ xs) zero x at = cc
  taken_and_next (y ∷ xs) (suc n) x at = let e = taken_and_next xs n x at in cc

  pub within : (xs ys : List X) → length xs ≤ length (xs ++ ys)
  within xs ys = let e = length-append xs ys in omega arith

module _ {S R U Z : Type 0} where
  pub run_taken : (nodes : Nodes S R U Z) (w e : World S U) (p q xs ys : List R) → Run nodes w p q e →
      Run nodes w (take (length p) (p ++ xs)) (take (length q) (q ++ ys)) e
  run_taken nodes w e p q xs ys run =
      subst (λ (x : List R). Run nodes w x (take (length q) (q ++ ys)) e) (sym (take-append_seam p xs))
      (subst (λ (y : List R). Run nodes w p y e) (sym (take-append_seam q ys)) run)

  pub next_offends : (nodes : Nodes S R U Z) → BothTell nodes → (first_a first_b : S) (w : World S U) (p q xs ys : List R) (r : R) (z : Z) →
      Run nodes (start_world first_a first_b) p q w → advance nodes.node_a w.a w.b r ≡ Refused z →
      Offends nodes (start_world first_a first_b) (p ++ r ∷ xs) (q ++ ys) (length p) z
  next_offends nodes tells first_a first_b w p q xs ys r z run refused =
      offends nodes tells first_a first_b w (p ++ r ∷ xs) (q ++ ys) (length p) (length q) r z (within p (r ∷ xs)) (within q ys)
      (run_taken nodes (start_world first_a first_b) w p q (r ∷ xs) ys run) (next_at p xs r) refused
