-- Of two lists of pieces that were received, one has what the other has.
use Rattle.dna_queues.proofs.Prelude.{◌≡◌, ℕ, zero, suc, ◌≤◌, Bool, true, false, cond, Option, Some, None, List, [], ◌∷◌, drop, refl, ap, ◌∙◌}
use Rattle.dna_queues.proofs.Prelude.{arith, Piece, in_order, hold, Whole, with_piece, next_message}

abbrev pub Below : List (Option Piece) → List (Option Piece) → Type 0
Below [] ys = Unit {0}
Below (None ∷ xs) [] = ⊥
Below (None ∷ xs) (y ∷ ys) = Below xs ys
Below (Some p ∷ xs) [] = ⊥
Below (Some p ∷ xs) (y ∷ ys) = (y ≡ Some p) × Below xs ys

pub below_itself : (xs : List (Option Piece)) → Below xs xs
below_itself [] = tt
below_itself (None ∷ xs) = below_itself xs
below_itself (Some p ∷ xs) = (refl, below_itself xs)

pub below_on : (xs ys zs : List (Option Piece)) → Below xs ys → Below ys zs → Below xs zs
below_on [] ys zs a b = tt
below_on (None ∷ xs) [] zs a b = absurd a
below_on (None ∷ xs) (None ∷ ys) [] a b = absurd b
below_on (None ∷ xs) (None ∷ ys) (z ∷ zs) a b = below_on xs ys zs a b
below_on (None ∷ xs) (Some q ∷ ys) [] a b = absurd b
below_on (None ∷ xs) (Some q ∷ ys) (z ∷ zs) a b = below_on xs ys zs a b.1
below_on (Some p ∷ xs) [] zs a b = absurd a
below_on (Some p ∷ xs) (None ∷ ys) zs a b = let e = a.0 in absurd cc
below_on (Some p ∷ xs) (Some q ∷ ys) [] a b = absurd b
below_on (Some p ∷ xs) (Some q ∷ ys) (z ∷ zs) a b = (b.0 ∙ a.0, below_on xs ys zs a.1 b.1)

pub below_hold : (place : ℕ) (p : Piece) (xs : List (Option Piece)) → Below xs (hold place p xs)
below_hold zero p [] = tt
below_hold zero p (None ∷ xs) = below_itself xs
below_hold zero p (Some q ∷ xs) = (refl, below_itself xs)
below_hold (suc place) p [] = tt
below_hold (suc place) p (None ∷ xs) = below_hold place p xs
below_hold (suc place) p (Some q ∷ xs) = (refl, below_hold place p xs)

pub below_order : (xs ys : List (Option Piece)) → Below xs ys → in_order xs ≤ in_order ys
below_order [] ys b = omega arith
below_order (None ∷ xs) [] b = absurd b
below_order (None ∷ xs) (y ∷ ys) b = omega arith
below_order (Some p ∷ xs) [] b = absurd b
below_order (Some p ∷ xs) (None ∷ ys) b = let e = b.0 in absurd cc
below_order (Some p ∷ xs) (Some q ∷ ys) b = let r = below_order xs ys b.1 in omega (arith, r)

pub below_drop : (n : ℕ) (xs ys : List (Option Piece)) → Below xs ys → Below (drop n xs) (drop n ys)
below_drop zero xs ys b = b
below_drop (suc n) [] ys b = tt
below_drop (suc n) (None ∷ xs) [] b = absurd b
below_drop (suc n) (None ∷ xs) (y ∷ ys) b = below_drop n xs ys b
below_drop (suc n) (Some p ∷ xs) [] b = absurd b
below_drop (suc n) (Some p ∷ xs) (y ∷ ys) b = below_drop n xs ys b.1

pub below_next : (xs ys : List (Option Piece)) (w : Whole) → Below xs ys → next_message xs ≡ Some w → next_message ys ≡ Some w
below_next [] ys w b e = absurd cc
below_next (None ∷ xs) ys w b e = absurd cc
below_next (Some p ∷ xs) [] w b e = absurd b
below_next (Some p ∷ xs) (None ∷ ys) w b e = let none = b.0 in absurd cc
below_next (Some p ∷ xs) (Some q ∷ ys) w b e =
    ap (λ (o : Option Piece). next_message (o ∷ ys)) b.0 ∙ go p.ends (λ v f. below_next xs ys v b.1 f) e
  where
    by_next : (o : Option Whole) → next_message xs ≡ o → ((v : Whole) → next_message xs ≡ Some v → next_message ys ≡ Some v) →
        with_piece p o ≡ Some w → with_piece p (next_message ys) ≡ Some w
    by_next None is next e = absurd cc
    by_next (Some v) is next e = ap (with_piece p) (next v is) ∙ e

    go : (b : Bool) → ((v : Whole) → next_message xs ≡ Some v → next_message ys ≡ Some v) →
        cond b (Some (record { pieces = 1; message = p.body })) (with_piece p (next_message xs)) ≡ Some w →
        cond b (Some (record { pieces = 1; message = p.body })) (with_piece p (next_message ys)) ≡ Some w
    go true next e = e
    go false next e = by_next _ refl next e
