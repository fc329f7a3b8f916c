-- Which numbers passed as a RESP: what passed stays, and what passes is there.
use Rattle.std.proofs.Common.{◌≡◌, ℕ, ◌<◌, ◌≤◌, Bool, true, false, List, length, get_or, set, refl, sym, ap, arith, ◌∙◌, ◌⊎◌, inl, inr}
use Rattle.std.proofs.Math.ListN.{replicate}
use Rattle.std.proofs.lemmas.Bool.{cases_eq, cases_lt}
use Rattle.std.proofs.lemmas.List.{get_or-set_other, get_or-replicate, get_or_past, length-replicate, length-set}
use Rattle.std.proofs.lemmas.Grind.{get_or-set_at}

pub there : (xs : List Bool) (r : ℕ) → r < length xs → get_or (set xs r true) r false ≡ true
there xs r l = get_or-set_at xs r r true false refl l

pub stays_there : (xs : List Bool) (r v : ℕ) → get_or xs v false ≡ true → get_or (set xs r true) v false ≡ true
stays_there xs r v h = go (cases_eq v r) (cases_lt r (length xs))
  where
    go : (v ≡ r) ⊎ (v ≡ r → ⊥) → (r < length xs) ⊎ (length xs ≤ r) → get_or (set xs r true) v false ≡ true
    go (inr other) side = get_or-set_other xs r v true false other ∙ h
    go (inl same) (inl within) = get_or-set_at xs r v true false same within
    go (inl same) (inr past) = absurd (let none = get_or_past xs r false past in let at = ap (λ x. get_or xs x false) same in cc)

pub there_alike : (xs ys : List Bool) (r v : ℕ) → length xs ≡ length ys → (get_or xs v false ≡ true → get_or ys v false ≡ true) →
    get_or (set xs r true) v false ≡ true → get_or (set ys r true) v false ≡ true
there_alike xs ys r v same_length keeps h = go (cases_eq v r) (cases_lt r (length ys))
  where
    go : (v ≡ r) ⊎ (v ≡ r → ⊥) → (r < length ys) ⊎ (length ys ≤ r) → get_or (set ys r true) v false ≡ true
    go (inr other) side = get_or-set_other ys r v true false other ∙ keeps (sym (get_or-set_other xs r v true false other) ∙ h)
    go (inl same) (inl within) = get_or-set_at ys r v true false same within
    go (inl same) (inr past) = absurd (let none = get_or_past (set xs r true) v false (omega (arith, length-set xs r true)) in cc)

pub none_there : (n v : ℕ) → get_or (replicate n false) v false ≡ true → ⊥
none_there n v h = go (cases_lt v n)
  where
    go : (v < n) ⊎ (n ≤ v) → ⊥
    go (inl within) = let none = get_or-replicate n v false false within in cc
    go (inr past) = let none = get_or_past (replicate n false) v false (omega (arith, length-replicate n false)) in cc
