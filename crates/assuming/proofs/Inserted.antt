-- A set of places has one more after it was put in.
use Rattle.std.proofs.Common.{◌≡◌, ℕ, Bool, true, false, ◌||◌, List, [], ◌∷◌, refl, sym, ap, ◌∙◌}
use Rattle.std.proofs.Common.{Ordering, Less, Equal, Greater, nat_cmp}
use Rattle.std.proofs.lemmas.Map.Lookups.{exact_unsigned}
use Rattle.std.specs.Ordering.{match_ordering, ordering_then}
use Rattle.std.specs.List.{list_any}
use Rattle.std.specs.BTreeSet.{insert_key}

twice : (a b : Bool) → (a || b) ≡ (a || (a || b))
twice true b = refl
twice false b = refl

turned : (a b c : Bool) → (a || (b || c)) ≡ (b || (a || c))
turned true true c = refl
turned true false c = refl
turned false b c = refl

module _ {K : Type 0} (compare : K → K → Ordering) (exact : (x y : K) → compare x y ≡ Equal → x ≡ y) (test : K → Bool) where
  pub inserted : (keys : List K) (k : K) → list_any test (insert_key compare keys k) ≡ (test k || list_any test keys)
  inserted [] k = refl
  inserted (x ∷ keys) k = go (compare k x) refl (inserted keys k)
    where
      go : (o : Ordering) → compare k x ≡ o → list_any test (insert_key compare keys k) ≡ (test k || list_any test keys) →
          list_any test (match_ordering o (k ∷ x ∷ keys) (x ∷ keys) (x ∷ insert_key compare keys k)) ≡ (test k || (test x || list_any test keys))
      go Less e later = refl
      go Equal e later = twice (test x) (list_any test keys) ∙ ap (λ (y : K). test y || (test x || list_any test keys)) (sym (exact k x e))
      go Greater e later = ap (λ (b : Bool). test x || b) later ∙ turned (test x) (test k) (list_any test keys)

-- ---- by the order of three numbers

abbrev pub Three : Type 0
Three = ℕ × ℕ × ℕ

abbrev pub three_compared : Three → Three → Ordering
three_compared x y = ordering_then (ordering_then (nat_cmp x.0 y.0) (nat_cmp x.1 y.1)) (nat_cmp x.2 y.2)

both_equal : (a b : Ordering) → ordering_then a b ≡ Equal → (a ≡ Equal) × (b ≡ Equal)
both_equal Less b e = absurd cc
both_equal Equal b e = (refl, e)
both_equal Greater b e = absurd cc

same_three : (a b c d e f : ℕ) → a ≡ d → b ≡ e → c ≡ f → ◌≡◌ {A = Three} (a, b, c) (d, e, f)
same_three a b c d e f one two three = cc

pub three_exact : (x y : Three) → three_compared x y ≡ Equal → x ≡ y
three_exact x y e =
    let all = both_equal (ordering_then (nat_cmp x.0 y.0) (nat_cmp x.1 y.1)) (nat_cmp x.2 y.2) e in
    let first = both_equal (nat_cmp x.0 y.0) (nat_cmp x.1 y.1) all.0 in
    same_three x.0 x.1 x.2 y.0 y.1 y.2 (exact_unsigned x.0 y.0 first.0) (exact_unsigned x.1 y.1 first.1) (exact_unsigned x.2 y.2 all.1)
