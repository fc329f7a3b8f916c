-- What is kept of the pieces that went first, after one more was sent and after some were acknowledged.
use Rattle.accusing_segments.proofs.Prelude.{◌≡◌, ℕ, ◌<◌, ◌+◌, ◌-◌, ◌%◌, Bool, true, false, ◌&&◌, cond, eqb, Option, Some, None, is_some, refl}
use Rattle.accusing_segments.proofs.Prelude.{subst, ap, ap₂, ◌∙◌, arith, nat_cmp, eqb-true, ordering_then, BTreeMap, get, is_at, Updates, Piece}
use Rattle.accusing_segments.proofs.Prelude.{REACH, wire, Known, is_this, is_covered, first_of, three_compared, first_noted}
use Rattle.accusing_segments.proofs.{Passing.covered, Sizes.is_same, Sizes.is_then}

and_assoc : (a b c : Bool) → ((a && b) && c) ≡ (a && (b && c))
and_assoc true b c = refl
and_assoc false b c = refl

is_three : (a b c o f n : ℕ) → is_at (three_compared (a, b, c)) (o, f, n) ≡ (eqb a o && (eqb b f && eqb c n))
is_three a b c o f n =
    is_then (ordering_then (nat_cmp a o) (nat_cmp b f)) (nat_cmp c n)
    ∙ (ap₂ (λ (x y : Bool). x && y) (is_then (nat_cmp a o) (nat_cmp b f) ∙ ap₂ (λ (x y : Bool). x && y) (is_same a o) (is_same b f)) (is_same c n)
    ∙ and_assoc (eqb a o) (eqb b f) (eqb c n))

module _ (own far number : ℕ) (old new : BTreeMap (ℕ × ℕ × ℕ) Piece) where
  pub forgotten : Updates three_compared old new (own, far, number) None → (o f n : ℕ) → is_this (own, far, number, 0) o f n 0 ≡ false →
      first_noted new.entries o f n ≡ first_noted old.entries o f n
  forgotten updates o f n other =
      updates.0 (o, f, n) ∙ (ap (λ (b : Bool). cond b None (get three_compared old (o, f, n))) (is_three own far number o f n)
      ∙ go (eqb own o) (eqb far f) (eqb number n) other)
    where
      go : (a b c : Bool) → (a && (b && (c && true))) ≡ false →
          cond (a && (b && c)) None (get three_compared old (o, f, n)) ≡ first_noted old.entries o f n
      go true true true e = absurd cc
      go true true false e = refl
      go true false c e = refl
      go false b c e = refl

  pub noted_now : (piece : Piece) → Updates three_compared old new (own, far, number) (Some piece) →
      is_some (get three_compared old (own, far, number)) ≡ false → (o f n : ℕ) →
      first_noted new.entries o f n
      ≡ first_of (first_noted old.entries o f n) (cond (eqb own o && (eqb far f && eqb number n)) (Some piece) None)
  noted_now piece updates none o f n =
      updates.0 (o, f, n) ∙ (ap (λ (b : Bool). cond b (Some piece) (get three_compared old (o, f, n))) (is_three own far number o f n)
      ∙ go (eqb own o) (eqb far f) (eqb number n) refl refl refl)
    where
      same : (m : Option Piece) → m ≡ first_of m None
      same None = refl
      same (Some p) = refl

      new_one : (m : Option Piece) → is_some m ≡ false → ◌≡◌ {A = Option Piece} (Some piece) (first_of m (Some piece))
      new_one None e = refl
      new_one (Some p) e = absurd cc

      go : (a b c : Bool) → eqb own o ≡ a → eqb far f ≡ b → eqb number n ≡ c →
          cond (a && (b && c)) (Some piece) (get three_compared old (o, f, n))
          ≡ first_of (first_noted old.entries o f n) (cond (a && (b && c)) (Some piece) None)
      go true true true one two three =
          new_one (first_noted old.entries o f n)
          (subst (λ (x : ℕ). is_some (first_noted old.entries x f n) ≡ false) (eqb-true own o one)
          (subst (λ (x : ℕ). is_some (first_noted old.entries own x n) ≡ false) (eqb-true far f two)
          (subst (λ (x : ℕ). is_some (first_noted old.entries own far x) ≡ false) (eqb-true number n three) none)))
      go true true false one two three = same (first_noted old.entries o f n)
      go true false c one two three = same (first_noted old.entries o f n)
      go false b c one two three = same (first_noted old.entries o f n)

-- what can't be acknowledged is not the one that is forgotten
pub not_this : (words : Known) (own far number below o f n : ℕ) → number < 4096 → below < 2047 → words own far number 0 ≡ true →
    is_covered (λ m. words o f m 0) n REACH ≡ false → is_this (own, far, (number + 4096 - below) % 4096, 0) o f n 0 ≡ false
not_this words own far number below o f n small near word none =
    go (eqb own o) (eqb far f) (eqb ((number + 4096 - below) % 4096) n) refl refl refl
  where
    go : (a b c : Bool) → eqb own o ≡ a → eqb far f ≡ b → eqb ((number + 4096 - below) % 4096) n ≡ c → (a && (b && (c && true))) ≡ false
    go true true true one two three =
        let place = eqb-true ((number + 4096 - below) % 4096) n three in
        let to : number ≡ wire (n + below) = omega (arith, place, small, near) in
        let here : words o f (wire (n + below)) 0 ≡ true =
        subst (λ (x : ℕ). words x f (wire (n + below)) 0 ≡ true) (eqb-true own o one)
        (subst (λ (x : ℕ). words own x (wire (n + below)) 0 ≡ true) (eqb-true far f two)
        (subst (λ (x : ℕ). words own far x 0 ≡ true) to word)) in
        let yes = covered (λ m. words o f m 0) n below REACH near here in
        absurd cc
    go true true false one two three = refl
    go true false c one two three = refl
    go false b c one two three = refl
