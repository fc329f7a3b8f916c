-- The live links of a side, as a loop over their numbers finds them.
use Rattle.std.proofs.Common.{◌≡◌, ℕ, zero, suc, ◌+◌, ◌<◌, Bool, List, [], ◌∷◌, ◌++◌, length, map, take}
use Rattle.std.proofs.Common.{refl, sym, ap, ◌∙◌, cond, get_or}
use Rattle.std.specs.Prelude.{Some, None, slice_get, option_map}
use Rattle.std.specs.List.{filter}
use Rattle.std.proofs.lemmas.List.Elements.{filter_more}
use Rattle.std.proofs.lemmas.Option.{slice_get-map, slice_get-get_or, slice_get_within}

-- the next one is there, and goes on if it passes
more : {X : Type 0} (p : X → Bool) (xs : List X) (n : ℕ) (x : X) → slice_get xs n ≡ Some x
    → filter p (take (n + 1) xs) ≡ filter p (take n xs) ++ cond (p x) (x ∷ []) []
more p xs n x e =
    let within : n < length xs = slice_get_within xs n x e in
    let same : Some (get_or xs n x) ≡ Some x = sym (slice_get-get_or xs n x within) ∙ e in
    let at : get_or xs n x ≡ x = cc in
    filter_more p xs n x within ∙ ap (λ y. filter p (take n xs) ++ cond (p y) (y ∷ []) []) at

pub seen_more : {X Y : Type 0} (v : X → Y) (p : Y → Bool) (xs : List X) (n : ℕ) (y : Y) → Some y ≡ option_map v (slice_get xs n)
    → filter p (take (n + 1) (map v xs)) ≡ filter p (take n (map v xs)) ++ cond (p y) (y ∷ []) []
seen_more v p xs n y e = more p (map v xs) n y (slice_get-map v xs n ∙ sym e)

-- where there is no next one, all were seen
pub seen_all : {X Y : Type 0} (v : X → Y) (xs : List X) (n : ℕ) → None ≡ option_map v (slice_get xs n) → take n (map v xs) ≡ map v xs
seen_all v [] zero none = refl
seen_all v [] (suc n) none = refl
seen_all v (x ∷ xs) zero none = absurd cc
seen_all v (x ∷ xs) (suc n) none = ap (λ ys. v x ∷ ys) (seen_all v xs n none)
