-- The largest SEGSIZE of two links says for how many data bytes there is room, whichever were told.
use Rattle.accusing_segments.proofs.Prelude.{◌≡◌, ℕ, ◌≤◌, Bool, true, false, ◌&&◌, ◌||◌, cond, eqb, leb, ltb, Option, Some, None, List, refl, sym}
use Rattle.accusing_segments.proofs.Prelude.{ap, ap₂, ◌∙◌, arith, Ordering, Less, Equal, Greater, nat_cmp, eqb-true, ltb-true, leb-true, leb-false}
use Rattle.accusing_segments.proofs.Prelude.{le-leb, is_eq, ordering_then, lookup, BTreeMap, get, is_at, Updates, is_room, two_compared, within}
use Rattle.accusing_segments.proofs.Prelude.{fits}

-- ---- by the order of two numbers

pub is_same : (x y : ℕ) → is_eq (nat_cmp x y) ≡ eqb x y
is_same x y = go (ltb x y) (eqb x y) refl refl
  where
    go : (a b : Bool) → ltb x y ≡ a → eqb x y ≡ b → is_eq (cond a Less (cond b Equal Greater)) ≡ b
    go true true l e = let less = ltb-true x y l in let same = eqb-true x y e in absurd (omega (arith, less, same))
    go true false l e = refl
    go false true l e = refl
    go false false l e = refl

pub is_then : (a b : Ordering) → is_eq (ordering_then a b) ≡ (is_eq a && is_eq b)
is_then Less b = refl
is_then Equal b = refl
is_then Greater b = refl

is_pair : (own far o f : ℕ) → is_at (two_compared (own, far)) (o, f) ≡ (eqb own o && eqb far f)
is_pair own far o f = is_then (nat_cmp own o) (nat_cmp far f) ∙ ap₂ (λ (a b : Bool). a && b) (is_same own o) (is_same far f)

-- ---- room

within_less : (o : Option ℕ) (a b : ℕ) → within o a ≡ true → b ≤ a → within o b ≡ true
within_less None a b e l = absurd cc
within_less (Some segsize) a b e l = le-leb b segsize (let m = leb-true a segsize e in omega (arith, l, m))

within_more : (o : Option ℕ) (a b : ℕ) → within o a ≡ false → within o b ≡ true → b ≤ a
within_more None a b e g = absurd cc
within_more (Some segsize) a b e g = let l = leb-false a segsize e in let m = leb-true b segsize g in omega (arith, l, m)

module _ (own far segsize : ℕ) where
  -- there was room for as many
  pub told_before : (sizes : List ((ℕ × ℕ) × ℕ)) → fits sizes own far segsize 0 ≡ true → (o f b w : ℕ) →
      fits sizes o f b w ≡ (is_room own far segsize o f b w || fits sizes o f b w)
  told_before sizes had o f b w = go (eqb own o) (eqb far f) (leb b segsize) refl refl refl
    where
      go : (x y z : Bool) → eqb own o ≡ x → eqb far f ≡ y → leb b segsize ≡ z → fits sizes o f b w ≡ ((x && (y && z)) || fits sizes o f b w)
      go true true true one two three =
          ap₂ (λ (p q : ℕ). fits sizes p q b w) (sym (eqb-true own o one)) (sym (eqb-true far f two))
          ∙ within_less (lookup (is_at (two_compared (own, far))) sizes) segsize b had (leb-true b segsize three)
      go true true false one two three = refl
      go true false z one two three = refl
      go false y z one two three = refl

  -- there was not
  pub told_now : (old new : BTreeMap (ℕ × ℕ) ℕ) → Updates two_compared old new (own, far) (Some segsize) →
      fits old.entries own far segsize 0 ≡ false →
      (o f b w : ℕ) → fits new.entries o f b w ≡ (is_room own far segsize o f b w || fits old.entries o f b w)
  told_now old new updates had o f b w =
      ap (λ (x : Option ℕ). within x b) (updates.0 (o, f))
      ∙ ap (λ (t : Bool). within (cond t (Some segsize) (get two_compared old (o, f))) b) (is_pair own far o f)
      ∙ go (eqb own o) (eqb far f) refl refl
    where
      same : eqb own o ≡ true → eqb far f ≡ true → (z : Bool) → leb b segsize ≡ z → (p : Bool) → fits old.entries o f b w ≡ p → z ≡ (z || p)
      same one two true three p at = refl
      same one two false three false at = refl
      same one two false three true at =
          let here : fits old.entries own far b w ≡ true =
          ap₂ (λ (p q : ℕ). fits old.entries p q b w) (eqb-true own o one) (eqb-true far f two) ∙ at in
          let l = leb-false b segsize three in
          let m = within_more (get two_compared old (own, far)) segsize b had here in
          absurd (omega (arith, l, m))

      go : (x y : Bool) → eqb own o ≡ x → eqb far f ≡ y →
          within (cond (x && y) (Some segsize) (get two_compared old (o, f))) b ≡ ((x && (y && leb b segsize)) || fits old.entries o f b w)
      go true true one two = same one two (leb b segsize) refl (fits old.entries o f b w) refl
      go true false one two = refl
      go false y one two = refl
