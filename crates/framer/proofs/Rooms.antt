-- The end of a row, moved to its front.
use Rattle.std.proofs.Common.{◌≡◌, ℕ, ◌+◌, ◌-◌, ◌≤◌, List, length, take, drop, sym, ap, ◌∙◌, arith}
use Rattle.std.specs.List.{copy_within}
use Rattle.std.proofs.lemmas.List.{length-drop, length-take-le, take_at, drop-take}

pub kept_end : (xs : List ℕ) (count len : ℕ) → count ≤ len → len ≤ length xs →
    take (len - count) (copy_within xs count len 0) ≡ drop count (take len xs)
kept_end xs count len h within =
    let n = len - count in
    let e : len ≡ count + n = omega arith in
    let l : length (take n (drop count xs)) ≡ n = length-take-le n (drop count xs) (omega (arith, length-drop count xs)) in
    take_at (take n (drop count xs)) (drop (0 + n) xs) n l ∙ sym (drop-take count n xs) ∙ ap (λ (k : ℕ). drop count (take k xs)) (sym e)
