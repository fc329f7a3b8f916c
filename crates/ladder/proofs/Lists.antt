-- Lists and their last items.
use Rattle.std.proofs.Common.{◌≡◌, ℕ, ◌+◌, ◌-◌, ◌≤◌, ◌<◌, List, [], ◌∷◌, ◌++◌, Some, length, take, drop, get_or, map, set, sym, ◌∙◌, ap, ap₂, arith}
use Rattle.std.specs.List.{slice_get}
use Rattle.std.proofs.lemmas.List.{append_assoc, drop_more, get_or_at, length-map, length-take-le, map-append, set_at, take_all, take_more}
use Rattle.std.proofs.lemmas.Option.{get_or_from_slice_get, slice_get_within}
use Rattle.circular_buffer.specs.Buffer.{keep_last, last_item}

module _ {X : Type 0} where
  -- a list is what stands before its last item, and that
  pub split_last : (xs : List X) (x : X) → last_item xs ≡ Some x → xs ≡ take (length xs - 1) xs ++ x ∷ []
  split_last xs x e =
      let n : ℕ = length xs - 1 in
      let below : n < length xs = slice_get_within xs n x e in
      let whole : length xs ≤ n + 1 = omega arith in
      sym (take_all (n + 1) xs whole) ∙ take_more xs n x below ∙ ap (λ y. take n xs ++ y ∷ []) (get_or_from_slice_get xs n x x e)

  -- where there is room for all, the last ones are all
  pub keep_all : (n : ℕ) (xs : List X) → length xs ≤ n → keep_last n xs ≡ xs
  keep_all n xs fits = ap (λ k. drop k xs) (let e : length xs - n ≡ 0 = omega arith in e)

  -- a list whose first items are mapped, where the next one is mapped too
  pub mapped_more : (f : X → X) (xs ys : List X) (i : ℕ) (x : X) → i < length xs → ys ≡ map f (take i xs) ++ drop i xs
      → slice_get ys i ≡ Some x → set ys i (f x) ≡ map f (take (i + 1) xs) ++ drop (i + 1) xs
  mapped_more f xs ys i x below e read =
      let y : X = get_or xs i x in
      let front : List X = map f (take i xs) in
      let count : length front ≡ i = length-map (take i xs) f ∙ length-take-le i xs (omega (arith, below)) in
      let split : ys ≡ front ++ y ∷ drop (i + 1) xs = e ∙ ap (λ zs. front ++ zs) (drop_more xs i x below) in
      let same : x ≡ y = sym (get_or_from_slice_get ys i x x read) ∙ ap (λ zs. get_or zs i x) split ∙ get_or_at front y (drop (i + 1) xs) x i count in
      let more : map f (take (i + 1) xs) ≡ front ++ f y ∷ [] = ap (map f) (take_more xs i x below) ∙ map-append f (take i xs) (y ∷ []) in
      ap₂ (λ zs z. set zs i (f z)) split same
      ∙ set_at front y (drop (i + 1) xs) (f y) i count
      ∙ sym (append_assoc front (f y ∷ []) (drop (i + 1) xs))
      ∙ ap (λ zs. zs ++ drop (i + 1) xs) (sym more)
