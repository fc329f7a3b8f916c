-- How many of a list pass a test, when one of them changes, and when one is put behind them.
use Rattle.std.proofs.Common.{◌≡◌, ℕ, zero, suc, ◌+◌, ◌<◌, ◌≤◌, Bool, true, false, cond, Some, List, [], ◌∷◌, ◌++◌, length, set, refl, ap}
use Rattle.std.proofs.Common.{◌∙◌, arith}
use Rattle.std.specs.Prelude.{slice_get}
use Rattle.nsp_link.specs.inner.Index.{passes_at, counted}

abbrev pub bit : Bool → ℕ
bit true = 1
bit false = 0

pub bit_true : (b : Bool) → b ≡ true → bit b ≡ 1
bit_true b e = ap bit e

pub bit_false : (b : Bool) → b ≡ false → bit b ≡ 0
bit_false b e = ap bit e

pub bit_less : (a b : Bool) → (a ≡ true → b ≡ true) → bit a ≤ bit b
bit_less true b h = let one = bit_true b (h refl) in omega arith
bit_less false b h = omega arith

module _ {X : Type 0} (p : X → Bool) where
  counted_by : (b : Bool) (n : ℕ) → cond b (suc n) n ≡ bit b + n
  counted_by true n = omega arith
  counted_by false n = omega arith

  counted_cons : (x : X) (xs : List X) → counted p (x ∷ xs) ≡ bit (p x) + counted p xs
  counted_cons x xs = counted_by (p x) (counted p xs)

  pub counted_set : (xs : List X) (n : ℕ) (x y : X) → slice_get xs n ≡ Some x → counted p (set xs n y) + bit (p x) ≡ counted p xs + bit (p y)
  counted_set [] n x y e = absurd (cc)
  counted_set (z ∷ xs) zero x y e =
      let here : z ≡ x = cc in
      let same = ap (λ (w : X). bit (p w)) here in
      let before = counted_cons z xs in
      let after = counted_cons y xs in
      omega arith
  counted_set (z ∷ xs) (suc n) x y e =
      let later = counted_set xs n x y e in
      let before = counted_cons z xs in
      let after = counted_cons z (set xs n y) in
      omega arith

  pub counted_push : (xs : List X) (y : X) → counted p (xs ++ y ∷ []) ≡ counted p xs + bit (p y)
  counted_push [] y = let one = counted_cons y [] in omega arith
  counted_push (x ∷ xs) y =
      let later = counted_push xs y in
      let before = counted_cons x xs in
      let after = counted_cons x (xs ++ y ∷ []) in
      omega arith

  bit_one : (b : Bool) → bit b ≤ 1
  bit_one true = omega arith
  bit_one false = omega arith

  pub counted_all : (xs : List X) → counted p xs ≤ length xs
  counted_all [] = omega arith
  counted_all (x ∷ xs) =
      let later = counted_all xs in
      let all = counted_cons x xs in
      let one = bit_one (p x) in
      omega arith

  pub counted_some : (xs : List X) (n : ℕ) (x : X) → slice_get xs n ≡ Some x → p x ≡ true → 0 < counted p xs
  counted_some [] n x e passes = absurd (cc)
  counted_some (z ∷ xs) zero x e passes =
      let here : z ≡ x = cc in
      let one = bit_true (p z) (ap p here ∙ passes) in
      let all = counted_cons z xs in
      omega arith
  counted_some (z ∷ xs) (suc n) x e passes =
      let later = counted_some xs n x e passes in
      let all = counted_cons z xs in
      omega arith

  pub counted_none : (xs : List X) → ((n : ℕ) → passes_at p xs n ≡ false) → counted p xs ≡ 0
  counted_none [] none = refl
  counted_none (x ∷ xs) none =
      let later = counted_none xs (λ n. none (suc n)) in
      let first = bit_false (p x) (none 0) in
      let all = counted_cons x xs in
      omega arith
