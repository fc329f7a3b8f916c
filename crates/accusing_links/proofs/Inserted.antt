-- A set of segments has one more after it was put in, and is as it was once that is taken out.
use Rattle.accusing_links.proofs.Prelude.{◌≡◌, ℕ, Bool, true, false, ◌||◌, not, cond, eqb, ltb, List, [], ◌∷◌, refl, sym, ap, ap₂, ◌∙◌, arith}
use Rattle.accusing_links.proofs.Prelude.{ltb-true, eq-eqb, Ordering, Less, Equal, Greater, nat_cmp, exact_unsigned, match_ordering, ordering_then}
use Rattle.accusing_links.proofs.Prelude.{is_eq, list_any, insert_key, remove_key}
use Rattle.std.specs.BTreeMap.{is_at}

twice : (a b : Bool) → (a || b) ≡ (a || (a || b))
twice true b = refl
twice false b = refl

turned : (a b c : Bool) → (a || (b || c)) ≡ (b || (a || c))
turned true true c = refl
turned true false c = refl
turned false b c = refl

module _ {K : Type 0} (compare : K → K → Ordering) (exact : (x y : K) → compare x y ≡ Equal → x ≡ y) (test : K → Bool) where
  pub inserted : (keys : List K) (k : K) → list_any test (insert_key compare keys k) ≡ (test k || list_any test keys)
  inserted [] k = refl
  inserted (x ∷ keys) k = go (compare k x) refl (inserted keys k)
    where
      go : (o : Ordering) → compare k x ≡ o → list_any test (insert_key compare keys k) ≡ (test k || list_any test keys) →
          list_any test (match_ordering o (k ∷ x ∷ keys) (x ∷ keys) (x ∷ insert_key compare keys k)) ≡ (test k || (test x || list_any test keys))
      go Less e later = refl
      go Equal e later = twice (test x) (list_any test keys) ∙ ap (λ (y : K). test y || (test x || list_any test keys)) (sym (exact k x e))
      go Greater e later = ap (λ (b : Bool). test x || b) later ∙ turned (test x) (test k) (list_any test keys)

pub was_absent : (b : Bool) → not b ≡ true → b ≡ false
was_absent true e = absurd cc
was_absent false e = refl

-- one that was not there, put in and taken out again
module _ {K : Type 0} (compare : K → K → Ordering) (k : K) (same : compare k k ≡ Equal) where
  pub taken_out : (keys : List K) → list_any (is_at (compare k)) keys ≡ false → remove_key (is_at (compare k)) (insert_key compare keys k) ≡ keys
  taken_out [] e = ap (λ (o : Ordering). cond (is_eq o) [] (k ∷ [])) same
  taken_out (x ∷ keys) e = go (compare k x) refl e (taken_out keys)
    where
      go : (o : Ordering) → compare k x ≡ o → (is_eq o || list_any (is_at (compare k)) keys) ≡ false →
          (list_any (is_at (compare k)) keys ≡ false → remove_key (is_at (compare k)) (insert_key compare keys k) ≡ keys) →
          remove_key (is_at (compare k)) (match_ordering o (k ∷ x ∷ keys) (x ∷ keys) (x ∷ insert_key compare keys k)) ≡ x ∷ keys
      go Less at f later =
          ap (λ (o : Ordering). cond (is_eq o) (x ∷ keys) (k ∷ remove_key (is_at (compare k)) (x ∷ keys))) same
      go Equal at f later = absurd cc
      go Greater at f later =
          ap (λ (o : Ordering). cond (is_eq o) (insert_key compare keys k) (x ∷ remove_key (is_at (compare k)) (insert_key compare keys k))) at
          ∙ ap (λ (ys : List K). x ∷ ys) (later f)

-- ---- by the order of three numbers

abbrev pub Three : Type 0
Three = ℕ × ℕ × ℕ

abbrev pub three_compared : Three → Three → Ordering
three_compared x y = ordering_then (ordering_then (nat_cmp x.0 y.0) (nat_cmp x.1 y.1)) (nat_cmp x.2 y.2)

both_equal : (a b : Ordering) → ordering_then a b ≡ Equal → (a ≡ Equal) × (b ≡ Equal)
both_equal Less b e = absurd cc
both_equal Equal b e = (refl, e)
both_equal Greater b e = absurd cc

same_three : (a b c d e f : ℕ) → a ≡ d → b ≡ e → c ≡ f → ◌≡◌ {A = Three} (a, b, c) (d, e, f)
same_three a b c d e f one two three = cc

pub three_exact : (x y : Three) → three_compared x y ≡ Equal → x ≡ y
three_exact x y e =
    let all = both_equal (ordering_then (nat_cmp x.0 y.0) (nat_cmp x.1 y.1)) (nat_cmp x.2 y.2) e in
    let first = both_equal (nat_cmp x.0 y.0) (nat_cmp x.1 y.1) all.0 in
    same_three x.0 x.1 x.2 y.0 y.1 y.2 (exact_unsigned x.0 y.0 first.0) (exact_unsigned x.1 y.1 first.1) (exact_unsigned x.2 y.2 all.1)

same_number : (n : ℕ) → nat_cmp n n ≡ Equal
same_number n = go (ltb n n) refl
  where
    go : (b : Bool) → ltb n n ≡ b → cond b Less (cond (eqb n n) Equal Greater) ≡ Equal
    go true e = let l = ltb-true n n e in absurd (omega (arith, l))
    go false e = ap (λ (b : Bool). cond b Equal Greater) (eq-eqb n n refl)

pub three_same : (x : Three) → three_compared x x ≡ Equal
three_same x =
    ap₂ ordering_then (ap₂ ordering_then (same_number x.0) (same_number x.1)) (same_number x.2)
