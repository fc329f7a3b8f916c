-- `is_good` tells what `HasGoodCheck` says, and what follows for it.
use Rattle.std.proofs.Common.{◌≡◌, ℕ, zero, suc, ◌+◌, ◌-◌, ◌/◌, ◌%◌, ◌^◌, ◌<◌, ◌≤◌, Bool, true, false, eqb, leb, ◌&&◌, inl, inr, List, [], ◌∷◌, ◌++◌}
use Rattle.std.proofs.Common.{length, length-append, length-drop, take, drop, get_or, refl, sym, ap₂, ◌∙◌, subst, arith}
use Rattle.std.proofs.lemmas.Bool.{cases_Bool, eqb-true, eq-eqb, leb-true, le-leb}
use Rattle.std.proofs.lemmas.Bool.Decides.{nat_tests}
use Rattle.std.proofs.lemmas.List.{get_or-drop, take-append-drop}
use Rattle.wire_base.specs.BlockCheck.{row_of, IsSumOfCopies, HasGoodCheck, check_of, word_bytes, check_bytes, is_good}
use Rattle.wire_base.proofs.BlockCheck.{AreBytes, check_of_lt, copies_from_none, none_from_copies, copies_from_check, check_from_copies}

-- ---- parts of a row of bytes

pub AreBytes-drop : (n : ℕ) (bytes : List ℕ) → AreBytes bytes → AreBytes (drop n bytes)
AreBytes-drop n bytes h = λ i. rw (get_or-drop n bytes i 0) (h (n + i))

pub AreBytes-take : (n : ℕ) (bytes : List ℕ) → AreBytes bytes → AreBytes (take n bytes)
AreBytes-take zero bytes h = λ i. omega arith
AreBytes-take (suc n) [] h = h
AreBytes-take (suc n) (b ∷ bs) h =
    λ i. elim i as (λ j. get_or (b ∷ take n bs) j 0 < 256) [ zero ↦ h 0 | suc j ↦ AreBytes-take n bs (λ k. h (suc k)) j ]

pub AreBytes-append : (xs ys : List ℕ) → AreBytes xs → AreBytes ys → AreBytes (xs ++ ys)
AreBytes-append [] ys h k = k
AreBytes-append (x ∷ xs) ys h k =
    λ i. elim i as (λ j. get_or (x ∷ (xs ++ ys)) j 0 < 256) [ zero ↦ h 0 | suc j ↦ AreBytes-append xs ys (λ m. h (suc m)) k j ]

row_lt_word : (end : List ℕ) → length end ≡ 2 → AreBytes end → row_of end < 2 ^ 16
row_lt_word [] e h = omega arith
row_lt_word (a ∷ []) e h = absurd (omega arith)
row_lt_word (a ∷ b ∷ []) e h = let low : a < 256 = h 0 in let high : b < 256 = h 1 in omega arith
row_lt_word (a ∷ b ∷ c ∷ rest) e h = absurd (omega arith)

-- ---- a field with two bytes behind it

pub AreBytes_pair : (low high : ℕ) → low < 256 → high < 256 → AreBytes (low ∷ high ∷ [])
AreBytes_pair low high h k = λ i. elim i as (λ j. get_or (low ∷ high ∷ []) j 0 < 256) [
  | zero ↦ h
  | suc j ↦ elim j as (λ m. get_or (high ∷ []) m 0 < 256) [ zero ↦ k | suc m ↦ omega arith ]
]

pub AreBytes_word : (word : ℕ) → word < 2 ^ 16 → AreBytes (word_bytes word)
AreBytes_word word h = AreBytes_pair (word % 256) (word / 256) (omega arith) (omega arith)

pub row_of_word : (word : ℕ) → row_of (word_bytes word) ≡ word
row_of_word word = omega arith

pub good_from_check : (field end : List ℕ) → AreBytes field → length end ≡ 2 → row_of end ≡ check_of field → HasGoodCheck (field ++ end)
good_from_check field end h two e =
    record { two_bytes = omega (arith, length-append field end); copies = copies_from_check field end h e }

pub check_from_good : (field end : List ℕ) → AreBytes field → AreBytes end → length end ≡ 2 → HasGoodCheck (field ++ end) →
    row_of end ≡ check_of field
check_from_good field end h k two good = check_from_copies field end h (row_lt_word end two k) good.copies

pub good_from_word : (field : List ℕ) (word : ℕ) → AreBytes field → word ≡ check_of field → HasGoodCheck (field ++ word_bytes word)
good_from_word field word h e = good_from_check field (word_bytes word) h refl (row_of_word word ∙ e)

pub word_from_good : (field : List ℕ) (word : ℕ) → AreBytes field → word < 2 ^ 16 → HasGoodCheck (field ++ word_bytes word) → word ≡ check_of field
word_from_good field word h small good =
    sym (row_of_word word) ∙ check_from_good field (word_bytes word) h (AreBytes_word word small) refl good

-- ---- the test

both_true : (p q : Bool) → (p && q) ≡ true → (p ≡ true) × (q ≡ true)
both_true true q e = (refl, e)
both_true false q e = absurd (cc)

pub good_from_test : (bytes : List ℕ) → AreBytes bytes → is_good bytes ≡ true → HasGoodCheck bytes
unfolding is_good
good_from_test bytes h e =
    let rest = length bytes - 2 in
    let both = both_true (leb 2 (length bytes)) (eqb (check_of (take rest bytes)) (row_of (drop rest bytes))) e in
    let long : 2 ≤ length bytes = leb-true 2 (length bytes) both.0 in
    let same = eqb-true (check_of (take rest bytes)) (row_of (drop rest bytes)) both.1 in
    record {
      two_bytes = long;
      copies = subst (λ z. IsSumOfCopies (row_of z)) (take-append-drop rest bytes)
          (copies_from_check (take rest bytes) (drop rest bytes) (AreBytes-take rest bytes h) (sym same));
    }

pub test_from_good : (bytes : List ℕ) → AreBytes bytes → HasGoodCheck bytes → is_good bytes ≡ true
unfolding is_good
test_from_good bytes h good =
    let rest = length bytes - 2 in
    let end = drop rest bytes in
    let two : length end ≡ 2 = omega (arith, length-drop rest bytes, good.two_bytes) in
    let copies = subst (λ z. IsSumOfCopies (row_of z)) (sym (take-append-drop rest bytes)) good.copies in
    let same = check_from_copies (take rest bytes) end (AreBytes-take rest bytes h) (row_lt_word end two (AreBytes-drop rest bytes h)) copies in
    ap₂ ◌&&◌ (le-leb 2 (length bytes) good.two_bytes) (eq-eqb (check_of (take rest bytes)) (row_of end) (sym same))

pub not_good_short : (bytes : List ℕ) → length bytes < 2 → false ≡ is_good bytes
unfolding is_good
not_good_short bytes short = grind (arith, nat_tests)

-- the test by what the register is at the end
pub is_good_long : (bytes : List ℕ) → AreBytes bytes → 2 ≤ length bytes → eqb (check_of bytes) 0 ≡ is_good bytes
is_good_long bytes h long = elim (cases_Bool (is_good bytes)) [
  | inl good ↦ eq-eqb (check_of bytes) 0 (none_from_copies bytes h (good_from_test bytes h good).copies) ∙ sym good
  | inr bad ↦
      elim (cases_Bool (eqb (check_of bytes) 0)) [
        | inl none ↦ absurd (let good =
            test_from_good bytes h (record
            { two_bytes = long; copies = copies_from_none bytes h (eqb-true (check_of bytes) 0 none) }) in cc)
        | inr some ↦ some ∙ sym bad
      ]
]

-- what is sent passes the test
pub is_good-check : (field : List ℕ) → AreBytes field → is_good (field ++ check_bytes field) ≡ true
is_good-check field h =
    test_from_good (field ++ check_bytes field) (AreBytes-append field (check_bytes field) h (AreBytes_word (check_of field) (check_of_lt field h)))
    (good_from_word field (check_of field) h refl)
