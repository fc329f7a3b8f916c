-- Numbers that were said, one after the other.
use Rattle.accusing_links.proofs.Prelude.{◌≡◌, ℕ, zero, suc, ◌+◌, ◌<◌, Bool, true, false, ◌||◌, refl, sym, subst, ap₂, arith, eqb, eqb-true}
use Rattle.accusing_links.proofs.Prelude.{eqb-false, wire, was_said}

pub none_said : (said : ℕ → Bool) (number : ℕ) → was_said said number 0 ≡ false
unfolding was_said
none_said said number = refl

pub one_more_said : (said : ℕ → Bool) (number count : ℕ) → said (wire (number + (count + 1))) ≡ false → was_said said number count ≡ false →
    was_said said number (count + 1) ≡ false
unfolding was_said
one_more_said said number count this earlier =
    let same : suc count ≡ count + 1 = omega arith in
    let that : said (wire (number + suc count)) ≡ false = subst (λ (x : ℕ). said (wire (number + x)) ≡ false) (sym same) this in
    subst (λ (x : ℕ). was_said said number x ≡ false) same (ap₂ (λ (a b : Bool). a || b) that earlier)

-- one of so many was said
pub said_one : (said : ℕ → Bool) (number count all : ℕ) → count < all → said (wire (number + (count + 1))) ≡ true → was_said said number all ≡ true
unfolding was_said
said_one said number count zero less this = absurd (omega (arith, less))
said_one said number count (suc all) less this = go (eqb all count) refl (said_one said number count all)
  where
    at : all ≡ count → said (wire (number + suc all)) ≡ true
    at same =
        let to : count + 1 ≡ suc all = omega (arith, same) in subst (λ (x : ℕ). said (wire (number + x)) ≡ true) to this

    first : (a b : Bool) → a ≡ true → (a || b) ≡ true
    first true b e = refl
    first false b e = absurd cc

    second : (a b : Bool) → b ≡ true → (a || b) ≡ true
    second true b e = refl
    second false b e = e

    go : (b : Bool) → eqb all count ≡ b → (count < all → said (wire (number + (count + 1))) ≡ true → was_said said number all ≡ true) →
        (said (wire (number + suc all)) || was_said said number all) ≡ true
    go true e rest = first _ _ (at (eqb-true all count e))
    go false e rest = let not_same = eqb-false all count e in second (said (wire (number + suc all))) _ (rest (omega (arith, less, not_same)) this)

-- tests that answer alike
pub was_said_same : (one two : ℕ → Bool) → ((n : ℕ) → one n ≡ two n) → (number count : ℕ) → was_said one number count ≡ was_said two number count
unfolding was_said
was_said_same one two same number zero = refl
was_said_same one two same number (suc count) =
    ap₂ (λ (a b : Bool). a || b) (same (wire (number + suc count))) (was_said_same one two same number count)
