-- Pieces that are held at their places, from the first on and from the first that is not delivered on.
use Rattle.std.proofs.Common.{◌≡◌, ℕ, zero, suc, ◌-◌, ◌<◌, ◌≤◌, Option, Some, None, List, [], ◌∷◌, drop, refl, ap, ◌∙◌, arith}
use Rattle.dna_links.specs.Segmentation.{Piece, in_order, hold}

-- a piece that came in order comes again: nothing changes
pub hold_again : (place : ℕ) (p : Piece) (xs : List (Option Piece)) → place < in_order xs → hold place p xs ≡ xs
hold_again zero p [] l = absurd (omega (arith, l))
hold_again zero p (None ∷ xs) l = absurd (omega (arith, l))
hold_again zero p (Some q ∷ xs) l = refl
hold_again (suc k) p [] l = absurd (omega (arith, l))
hold_again (suc k) p (None ∷ xs) l = absurd (omega (arith, l))
hold_again (suc k) p (Some q ∷ xs) l = ap (λ (ys : List (Option Piece)). Some q ∷ ys) (hold_again k p xs (omega (arith, l)))

-- what is in order stays so
pub in_order-hold : (place : ℕ) (p : Piece) (xs : List (Option Piece)) → in_order xs ≤ in_order (hold place p xs)
in_order-hold zero p [] = omega arith
in_order-hold zero p (None ∷ xs) = omega arith
in_order-hold zero p (Some q ∷ xs) = omega arith
in_order-hold (suc k) p [] = omega arith
in_order-hold (suc k) p (None ∷ xs) = omega arith
in_order-hold (suc k) p (Some q ∷ xs) = omega (arith, in_order-hold k p xs)

pub drop_none : {X : Type 0} (n : ℕ) → drop n (let none : List X = [] in none) ≡ []
drop_none zero = refl
drop_none (suc n) = refl

-- behind what is dropped, a piece is held at a place so much lower
pub drop-hold : (n place : ℕ) (p : Piece) (xs : List (Option Piece)) → n ≤ place → drop n (hold place p xs) ≡ hold (place - n) p (drop n xs)
drop-hold zero place p xs l = let e : place ≡ place - zero = omega arith in ap (λ k. hold k p xs) e
drop-hold (suc n) zero p xs l = absurd (omega (arith, l))
drop-hold (suc n) (suc k) p [] l =
    let e : k - n ≡ suc k - suc n = omega arith in
    drop-hold n k p [] (omega (arith, l)) ∙ ap (hold (k - n) p) (drop_none n) ∙ ap (λ m. hold m p []) e
drop-hold (suc n) (suc k) p (x ∷ xs) l =
    let e : k - n ≡ suc k - suc n = omega arith in
    drop-hold n k p xs (omega (arith, l)) ∙ ap (λ m. hold m p (drop n xs)) e

pub in_order-drop : (n : ℕ) (xs : List (Option Piece)) → n ≤ in_order xs → in_order (drop n xs) ≡ in_order xs - n
in_order-drop zero xs l = omega arith
in_order-drop (suc n) [] l = absurd (omega (arith, l))
in_order-drop (suc n) (None ∷ xs) l = absurd (omega (arith, l))
in_order-drop (suc n) (Some q ∷ xs) l = omega (arith, in_order-drop n xs (omega (arith, l)))
