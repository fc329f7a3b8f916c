-- Which mark is the first, by a search from one on in front of which there is none.
use Rattle.std.proofs.Common.{◌≡◌, ℕ, ◌+◌, ◌-◌, ◌<◌, ◌≤◌, List, Some, length, take, drop, sym, ap, ◌∙◌, arith, ◌⊎◌, inl, inr, length-drop}
use Rattle.std.proofs.lemmas.List.{take_all}
use Rattle.std.specs.Prelude.{slice_get, slice_index}
use Rattle.std.proofs.lemmas.Bool.{cases_lt, eqb-true}
use Rattle.std.proofs.lemmas.Option.{same_Some, slice_get-get_or}
use Rattle.two_nodes.proofs.NumberedSteps.{slice_get-drop}
use Rattle.memchr.specs.Find.{Nowhere, NoneBefore, Passes, is_byte}
use Rattle.player_end.specs.inner.Marks.{IsUnmarkedBelow}

-- a search in all but the first ones
module _ {xs items : List ℕ} {lowest : ℕ} (below : IsUnmarkedBelow lowest xs) (all : items ≡ xs) (starts : lowest ≤ length xs) where
  abbrev hay : List ℕ
  hay = take (length items - lowest) (drop lowest items)

  abbrev marked : ℕ → Type 0
  marked = Passes (is_byte 1) hay

  hay_is : hay ≡ drop lowest xs
  hay_is = take_all (length items - lowest) (drop lowest items) (let long = length-drop lowest items in omega (arith, long)) ∙ ap (drop lowest) all

  at_hay : (k : ℕ) → slice_get hay k ≡ slice_get xs (lowest + k)
  at_hay k = ap (λ (zs : List ℕ). slice_get zs k) hay_is ∙ slice_get-drop lowest k xs

  long_hay : lowest + length hay ≡ length xs
  long_hay = let long = length-drop lowest xs in let whole = ap length hay_is in omega (arith, starts, long, whole)

  passes_there : (n : ℕ) → lowest ≤ n → n < length xs → slice_get xs n ≡ Some 1 → marked (n - lowest)
  passes_there n le l at =
      let again : lowest + (n - lowest) ≡ n = omega (arith, le) in
      let here : n - lowest < length hay = omega (arith, le, l, long_hay) in
      ap (is_byte 1) (same_Some (slice_index hay (n - lowest)) 1
      (sym (slice_get-get_or hay (n - lowest) 0 here) ∙ at_hay (n - lowest) ∙ ap (slice_get xs) again ∙ at))

  -- none up to here
  up_to : (end : ℕ) → Nowhere marked 0 end → lowest + end ≤ length xs → IsUnmarkedBelow (lowest + end) xs
  up_to end nowhere fits n l at = go (cases_lt n lowest)
    where
      go : (n < lowest) ⊎ (lowest ≤ n) → ⊥
      go (inl less) = below n less at
      go (inr le) = nowhere (n - lowest) (omega (arith, le)) (omega (arith, le, l)) (passes_there n le (omega (arith, l, fits)) at)

  pub none_marked : Nowhere marked 0 (length hay) → IsUnmarkedBelow (length xs) xs
  none_marked nowhere n l at = up_to (length hay) nowhere (omega (arith, long_hay)) n (omega (arith, l, long_hay)) at

  module _ (ahead : ℕ) (found : NoneBefore marked 0 (length hay) ahead × marked ahead) where
    pub none_before : IsUnmarkedBelow (lowest + ahead) xs
    none_before = let high = found.0.high in up_to ahead found.0.before (omega (arith, high, long_hay))

    pub marked_here : slice_get xs (lowest + ahead) ≡ Some 1
    marked_here = sym (at_hay ahead) ∙ slice_get-get_or hay ahead 0 found.0.high ∙ ap Some (eqb-true (slice_index hay ahead) 1 found.1)
