-- What a look at the pairs of addresses and numbers finds: those with one address stand beside each other, in the order of their numbers.
use Rattle.std.proofs.Common.{◌≡◌, ℕ, ◌<◌, ◌≤◌, Bool, true, false, cond, List, [], ◌∷◌, Option, Some, None, refl, ap, subst, arith, ◌⊎◌, inl, inr}
use Rattle.std.specs.Prelude.{slice_get, IfSome, ⊤}
use Rattle.std.proofs.lemmas.Bool.{false_from_ne_true}
use Rattle.std.specs.declared.cmp.Ordering.{Ordering}
use Rattle.std.specs.declared.cmp.Ordering.TheVariants.{Less, Equal, Greater}
use Rattle.std.specs.declared.ops.Bound.TheVariants.{Included, Unbounded}
use Rattle.std.specs.Ordering.{nat_cmp, ordering_then, is_gt, is_eq}
use Rattle.std.specs.BTreeMap.Range.{IsLeBy}
use Rattle.std.specs.BTreeSet.{BTreeSet, IsKeyRangeOf}
use Rattle.std.specs.Cmp.{ranked}
use Rattle.player_end.specs.inner.Addresses.{pair_cmp, has}

pub cond_yes : (b c : Bool) → c ≡ true → cond b true c ≡ true
cond_yes true c h = refl
cond_yes false c h = h

abbrev Parts : ℕ × ℕ → ℕ × ℕ → Type 0
Parts p q = (p.0 < q.0) ⊎ ((p.0 ≡ q.0) × (p.1 ≤ q.1))

le_parts : (p q : ℕ × ℕ) → is_gt (pair_cmp p q) ≡ false → Parts p q
le_parts p q h = go (nat_cmp p.0 q.0) refl (nat_cmp p.1 q.1) refl h
  where
    go : (o : Ordering) → o ≡ nat_cmp p.0 q.0 → (u : Ordering) → u ≡ nat_cmp p.1 q.1 → is_gt (ordering_then o u) ≡ false → Parts p q
    go Less e u f h = inl (ranked p.0 q.0 Less e)
    go Equal e Less f h = inr (ranked p.0 q.0 Equal e, (let less : p.1 < q.1 = ranked p.1 q.1 Less f in omega (arith, less)))
    go Equal e Equal f h = inr (ranked p.0 q.0 Equal e, (let same : p.1 ≡ q.1 = ranked p.1 q.1 Equal f in omega (arith, same)))
    go o e u f h = absurd cc

le_pair : (a m n : ℕ) → m ≤ n → is_gt (pair_cmp (a, m) (a, n)) ≡ false
le_pair a m n le = go (nat_cmp a a) refl (nat_cmp m n) refl
  where
    go : (o : Ordering) → o ≡ nat_cmp a a → (u : Ordering) → u ≡ nat_cmp m n → is_gt (ordering_then o u) ≡ false
    go Less e u f = absurd (let less : a < a = ranked a a Less e in omega (arith, less))
    go Equal e Greater f = absurd (let less : n < m = ranked m n Greater f in omega (arith, less, le))
    go Equal e u f = refl
    go Greater e u f = absurd (let less : a < a = ranked a a Greater e in omega (arith, less))

-- a pair with another number is another pair
pub other_pair : (a m q n : ℕ) → (n ≡ m → ⊥) → is_eq (pair_cmp (a, m) (q, n)) ≡ false
other_pair a m q n other = go (nat_cmp a q) (nat_cmp m n) refl
  where
    go : (o u : Ordering) → u ≡ nat_cmp m n → is_eq (ordering_then o u) ≡ false
    go Equal Equal f = absurd (let same : m ≡ n = ranked m n Equal f in other (omega (arith, same)))
    go o u f = refl

module _ (s : BTreeSet (ℕ × ℕ)) (address from : ℕ) (r : List (ℕ × ℕ))
    (of : IsKeyRangeOf pair_cmp (Included (address, from)) Unbounded s r) where
  pub none_there : r ≡ [] → (other : ℕ) → from ≤ other → has s address other ≡ false
  none_there e other h = of.5 e (address, other) (le_pair address from other h, tt)

  pub none_before : (p : ℕ × ℕ) (rest : List (ℕ × ℕ)) → r ≡ p ∷ rest → (other : ℕ) → from ≤ other → (p.0 ≡ address → other < p.1) →
      has s address other ≡ false
  none_before p rest e other h less = false_from_ne_true (has s address other) (λ there.
      let first : slice_get r 0 ≡ Some p = ap (λ (xs : List (ℕ × ℕ)). slice_get xs 0) e in
      let least = subst (λ (o : Option (ℕ × ℕ)). IfSome o (λ k. IsLeBy pair_cmp k (address, other))) first
      (of.2 (address, other) (le_pair address from other h, tt) there) in
      let behind = subst (λ (o : Option (ℕ × ℕ)). IfSome o (λ k. IsLeBy pair_cmp (address, from) k)) first (in_front (slice_get r 0) of.1) in
      go (le_parts p (address, other) least) (le_parts (address, from) p behind))
    where
      in_front : (o : Option (ℕ × ℕ)) → IfSome o (λ k. (IsLeBy pair_cmp (address, from) k × ⊤) × (has s k.0 k.1 ≡ true)) →
          IfSome o (λ k. IsLeBy pair_cmp (address, from) k)
      in_front (Some k) x = x.0.0
      in_front None x = x

      go : Parts p (address, other) → Parts (address, from) p → ⊥
      go (inl a) (inl b) = omega (arith, a, b)
      go (inl a) (inr b) = omega (arith, a, b.0)
      go (inr a) b = let l = less a.0 in omega (arith, l, a.1)
