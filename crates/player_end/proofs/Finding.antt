-- How the first item that passes is found: none in front of it passes.
use Rattle.std.proofs.Common.{◌≡◌, ℕ, zero, suc, ◌+◌, ◌<◌, ◌≤◌, Bool, true, false, Option, Some, None, option_map, position, List, [], ◌∷◌, length}
use Rattle.std.proofs.Common.{refl, ap, ◌∙◌, arith, ◌⊎◌, inl, inr}
use Rattle.std.specs.Prelude.{slice_get}
use Rattle.std.proofs.lemmas.Bool.{cases_lt, false_from_ne_true}
use Rattle.dna_play.proofs.Links.Lists.{position_here, position_later}

module _ {X : Type 0} (there : Option X → Bool) where
  -- none in front of this place passes
  abbrev pub NoneBelow : List X → ℕ → Type 0
  NoneBelow xs n = (k : ℕ) → k < n → there (slice_get xs k) ≡ false

  module _ (nothing : there None ≡ false) where
    abbrev it : X → Bool
    it x = there (Some x)

    pub found_first : (xs : List X) (n : ℕ) → there (slice_get xs n) ≡ true → NoneBelow xs n → position it xs ≡ Some n
    found_first [] n h none = absurd cc
    found_first (x ∷ xs) zero h none = position_here it x xs h
    found_first (x ∷ xs) (suc n) h none =
        position_later it x xs (none 0 (omega arith)) ∙ ap (option_map suc) (found_first xs n h (λ k less. none (suc k) (omega (arith, less))))

    pub found_none : (xs : List X) (n : ℕ) → NoneBelow xs n → length xs ≤ n → position it xs ≡ None
    found_none [] n none le = refl
    found_none (x ∷ xs) zero none le = absurd (omega (arith, le))
    found_none (x ∷ xs) (suc n) none le =
        position_later it x xs (none 0 (omega arith))
        ∙ ap (option_map suc) (found_none xs n (λ k less. none (suc k) (omega (arith, less))) (omega (arith, le)))

    pub passed_within : (xs : List X) (n : ℕ) → there (slice_get xs n) ≡ true → n < length xs
    passed_within [] n h = absurd cc
    passed_within (x ∷ xs) zero h = omega arith
    passed_within (x ∷ xs) (suc n) h = let later = passed_within xs n h in omega (arith, later)

    -- by what is known of each that passes
    pub unknown : (xs : List X) (n : ℕ) → ((x : X) → slice_get xs n ≡ Some x → it x ≡ true → ⊥) → there (slice_get xs n) ≡ false
    unknown xs n never = go (slice_get xs n) refl
      where
        go : (o : Option X) → slice_get xs n ≡ o → there o ≡ false
        go None is = nothing
        go (Some x) is = false_from_ne_true (it x) (never x is)

    module _ (xs : List X) {h : ℕ → Bool} (knows : (n : ℕ) (x : X) → slice_get xs n ≡ Some x → it x ≡ true → h n ≡ true) {from : ℕ}
        (none : NoneBelow xs from) {n : ℕ} where
      pub none_between : ((k : ℕ) → from ≤ k → k < n → h k ≡ false) → NoneBelow xs n
      none_between never k less = go (cases_lt k from)
        where
          go : (k < from) ⊎ (from ≤ k) → there (slice_get xs k) ≡ false
          go (inl before) = none k before
          go (inr more) = unknown xs k (λ x at e. (let yes = knows k x at e in let no = never k more less in cc))

      pub none_through : ((k : ℕ) → from ≤ k → k < n → h k ≡ false) → there (slice_get xs n) ≡ false → NoneBelow xs (n + 1)
      none_through never fails k less = go (cases_lt k n)
        where
          go : (k < n) ⊎ (n ≤ k) → there (slice_get xs k) ≡ false
          go (inl before) = none_between never k before
          go (inr more) = let same : k ≡ n = omega (arith, less, more) in ap (λ (i : ℕ). there (slice_get xs i)) same ∙ fails
