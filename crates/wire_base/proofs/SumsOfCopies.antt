-- Sums of shifted copies of the generator: what keeps a row one of them, and that below 2 ^ 16 only 0 is.
use Rattle.std.proofs.Common.{◌≡◌, ℕ, zero, suc, ◌*◌, ◌/◌, ◌%◌, ◌^◌, ◌<◌, ◌≤◌, ◌⊎◌, inl, inr, Bool, true, false, cond, not, List, [], ◌∷◌, refl, sym}
use Rattle.std.proofs.Common.{ap, ap₂, add-zero, ◌∙◌, subst, arith}
use Rattle.std.specs.Int.Bits.{bit_xor, xor_self, xor_zero_r, xor_assoc, xor_comm, xor_block, xor_shr, xor_mod}
use Rattle.std.proofs.Math.Nat.{pow-suc, mul_comm, mul_assoc, mul-one}
use Rattle.std.proofs.lemmas.Nat.{pow_pos}
use Rattle.wire_base.specs.BlockCheck.{generator, sum_of_copies, IsSumOfCopies}

-- ---- sums without carry

pub xor_cancel : (a b c : ℕ) → bit_xor (bit_xor a b) (bit_xor b c) ≡ bit_xor a c
xor_cancel a b c =
    xor_assoc a b (bit_xor b c) ∙ ap (bit_xor a) (sym (xor_assoc b b c) ∙ ap (λ z. bit_xor z c) (xor_self b))

pub xor_swap : (a b c d : ℕ) → bit_xor (bit_xor a b) (bit_xor c d) ≡ bit_xor (bit_xor a c) (bit_xor b d)
xor_swap a b c d =
    xor_assoc a b (bit_xor c d)
    ∙ ap (bit_xor a) (sym (xor_assoc b c d) ∙ ap (λ z. bit_xor z d) (xor_comm b c) ∙ xor_assoc c b d)
    ∙ sym (xor_assoc a c (bit_xor b d))

pub same_from_xor : (a b : ℕ) → bit_xor a b ≡ 0 → a ≡ b
same_from_xor a b e =
    sym (xor_zero_r a) ∙ ap (bit_xor a) (sym (xor_self b)) ∙ sym (xor_assoc a b b) ∙ ap (λ z. bit_xor z b) e

pub xor-mul_pow : (a b k : ℕ) → bit_xor (a * 2 ^ k) (b * 2 ^ k) ≡ bit_xor a b * 2 ^ k
xor-mul_pow a b k =
    let whole = xor_block k a b 0 0 (pow_pos k) (pow_pos k) in
    ap₂ bit_xor (sym (add-zero (a * 2 ^ k))) (sym (add-zero (b * 2 ^ k))) ∙ whole ∙ add-zero (bit_xor a b * 2 ^ k)

pub xor_double : (a b : ℕ) → bit_xor (2 * a) (2 * b) ≡ 2 * bit_xor a b
xor_double a b =
    ap₂ bit_xor (mul_comm 2 a) (mul_comm 2 b) ∙ xor-mul_pow a b 1 ∙ mul_comm (bit_xor a b) 2

-- ---- what keeps a row a sum of copies

abbrev copy : Bool → ℕ
copy begins = cond begins generator 0

abbrev differs : Bool → Bool → Bool
differs true q = not q
differs false q = q

copy-differs : (p q : Bool) → copy (differs p q) ≡ bit_xor (copy p) (copy q)
copy-differs true true = refl
copy-differs true false = refl
copy-differs false true = refl
copy-differs false false = refl

abbrev added : List Bool → List Bool → List Bool
added [] qs = qs
added (p ∷ ps) [] = p ∷ ps
added (p ∷ ps) (q ∷ qs) = differs p q ∷ added ps qs

sum_of_copies-added : (ps qs : List Bool) → sum_of_copies (added ps qs) ≡ bit_xor (sum_of_copies ps) (sum_of_copies qs)
sum_of_copies-added [] qs = refl
sum_of_copies-added (p ∷ ps) [] = sym (xor_zero_r (sum_of_copies (p ∷ ps)))
sum_of_copies-added (p ∷ ps) (q ∷ qs) =
    ap₂ (λ x y. bit_xor x (2 * y)) (copy-differs p q) (sum_of_copies-added ps qs)
    ∙ ap (bit_xor (bit_xor (copy p) (copy q))) (sym (xor_double (sum_of_copies ps) (sum_of_copies qs)))
    ∙ xor_swap (copy p) (copy q) (2 * sum_of_copies ps) (2 * sum_of_copies qs)

pub IsSumOfCopies-xor : (a b : ℕ) → IsSumOfCopies a → IsSumOfCopies b → IsSumOfCopies (bit_xor a b)
IsSumOfCopies-xor a b p q = (added p.0 q.0, ap₂ bit_xor p.1 q.1 ∙ sym (sum_of_copies-added p.0 q.0))

pub IsSumOfCopies_double : (a : ℕ) → IsSumOfCopies a → IsSumOfCopies (2 * a)
IsSumOfCopies_double a p = (false ∷ p.0, ap (λ z. 2 * z) p.1)

pub mul_pow-suc : (a k : ℕ) → 2 * (a * 2 ^ k) ≡ a * 2 ^ suc k
mul_pow-suc a k = mul_comm 2 (a * 2 ^ k) ∙ mul_assoc a (2 ^ k) 2 ∙ ap (λ z. a * z) (sym (pow-suc 2 k))

pub IsSumOfCopies-mul_pow : (a k : ℕ) → IsSumOfCopies a → IsSumOfCopies (a * 2 ^ k)
IsSumOfCopies-mul_pow a zero p = subst IsSumOfCopies (sym (mul-one a)) p
IsSumOfCopies-mul_pow a (suc k) p =
    subst IsSumOfCopies (mul_pow-suc a k) (IsSumOfCopies_double (a * 2 ^ k) (IsSumOfCopies-mul_pow a k p))

pub IsSumOfCopies_one : (bit : ℕ) → bit < 2 → IsSumOfCopies (bit * generator)
IsSumOfCopies_one zero h = ([], refl)
IsSumOfCopies_one (suc zero) h = (true ∷ [], refl)
IsSumOfCopies_one (suc (suc n)) h = absurd (omega arith)

-- ---- what a sum of copies is not

generator_high : (n : ℕ) → n / 2 ^ 17 ≡ 0 → (m : ℕ) → bit_xor n (2 * m) / 2 ^ 17 ≡ m / 2 ^ 16
generator_high n low m = xor_shr n (2 * m) 17 ∙ ap (λ z. bit_xor z (2 * m / 2 ^ 17)) low ∙ omega arith

zero_or_high : (places : List Bool) → (sum_of_copies places ≡ 0) ⊎ (2 ^ 16 ≤ sum_of_copies places)
zero_or_high [] = inl refl
zero_or_high (true ∷ places) = elim (zero_or_high places) [
  | inl none ↦ inr (subst (λ z. 2 ^ 16 ≤ bit_xor generator (2 * z)) (sym none) (omega arith))
  | inr high ↦ inr (omega (arith, generator_high generator refl (sum_of_copies places)))
]
zero_or_high (false ∷ places) = elim (zero_or_high places) [ inl none ↦ inl (omega arith) | inr high ↦ inr (omega arith) ]

pub zero_below : (n : ℕ) → IsSumOfCopies n → n < 2 ^ 16 → n ≡ 0
zero_below n p small = elim (zero_or_high p.0) [ inl none ↦ p.1 ∙ none | inr high ↦ absurd (omega (arith, p.1)) ]

odd_copy : (n : ℕ) → bit_xor generator (2 * n) % 2 ≡ 1
odd_copy n = xor_mod generator (2 * n) 1 ∙ ap (bit_xor 1) (let even : 2 * n % 2 ≡ 0 = omega arith in even)

pub IsSumOfCopies_half : (n : ℕ) → IsSumOfCopies (2 * n) → IsSumOfCopies n
IsSumOfCopies_half n ([], e) = ([], omega arith)
IsSumOfCopies_half n (true ∷ places, e) = absurd (omega (arith, odd_copy (sum_of_copies places), e))
IsSumOfCopies_half n (false ∷ places, e) = (places, omega arith)

pub IsSumOfCopies_low : (n k : ℕ) → IsSumOfCopies (n * 2 ^ k) → IsSumOfCopies n
IsSumOfCopies_low n zero p = subst IsSumOfCopies (mul-one n) p
IsSumOfCopies_low n (suc k) p =
    IsSumOfCopies_low n k (IsSumOfCopies_half (n * 2 ^ k) (subst IsSumOfCopies (sym (mul_pow-suc n k)) p))
