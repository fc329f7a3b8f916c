-- The check of a field is the one that makes its row, with the check behind it, a sum of copies of the generator.
use Rattle.std.proofs.Common.{◌≡◌, ℕ, zero, suc, ◌+◌, ◌*◌, ◌/◌, ◌%◌, ◌^◌, ◌<◌, List, [], ◌∷◌, ◌++◌, length, take, drop, get_or, fold, refl, sym, ap}
use Rattle.std.proofs.Common.{ap₂, ◌∙◌, subst, arith, pow-add}
use Rattle.std.specs.Int.Bits.{bit_xor, xor_self, xor_zero_r, xor_assoc, xor_comm, xor_block, xor_shr, xor_mod, xor_lt, xor_shifted}
use Rattle.std.proofs.Math.Nat.{mul_assoc, mul-one}
use Rattle.std.proofs.lemmas.List.Sums.{fold_more, fold-append}
use Rattle.std.proofs.Math.Seq.{take-add}
use Rattle.wire_base.specs.BlockCheck.{row_of, generator, IsSumOfCopies, shift, shifted, after_byte, after_zeros, check_of}
use Rattle.wire_base.proofs.SumsOfCopies.{xor_cancel, xor_swap, same_from_xor, xor-mul_pow, xor_double, mul_pow-suc, IsSumOfCopies-xor}
use Rattle.wire_base.proofs.SumsOfCopies.{IsSumOfCopies_double, IsSumOfCopies-mul_pow, IsSumOfCopies_one, IsSumOfCopies_low, zero_below}

-- each number of the list is a byte
abbrev pub AreBytes : List ℕ → Type 0
AreBytes bytes = (i : ℕ) → get_or bytes i 0 < 256

-- ---- one bit

two_shift : (r : ℕ) → 2 * shift r ≡ bit_xor r (r % 2 * generator)
unfolding shift
two_shift r =
    let bit : r % 2 < 2 = omega arith in
    let whole = xor_block 1 (r / 2) (r % 2 * 0xa001) (r % 2) (r % 2) bit bit in
    let left : r ≡ r / 2 * 2 ^ 1 + r % 2 = omega arith in
    let right : r % 2 * generator ≡ r % 2 * 0xa001 * 2 ^ 1 + r % 2 = omega arith in
    sym (ap₂ bit_xor left right ∙ whole ∙ omega (arith, xor_self (r % 2)))

shift_leaves : (r : ℕ) → IsSumOfCopies (bit_xor r (2 * shift r))
shift_leaves r =
    let rest = r % 2 * generator in
    let same : rest ≡ bit_xor r (bit_xor r rest) = ap (λ z. bit_xor z rest) (sym (xor_self r)) ∙ xor_assoc r r rest in
    subst (λ z. IsSumOfCopies (bit_xor r z)) (sym (two_shift r)) (subst IsSumOfCopies same (IsSumOfCopies_one (r % 2) (omega arith)))

shift_lt : (r : ℕ) → r < 2 ^ 16 → shift r < 2 ^ 16
unfolding shift
shift_lt r h = xor_lt 16 (r / 2) (r % 2 * 0xa001) (omega arith) (omega arith)

-- the bits above those that go out stay as they are
shift_high : (h r k : ℕ) → shift (bit_xor (h * 2 ^ suc k) r) ≡ bit_xor (h * 2 ^ k) (shift r)
unfolding shift
shift_high h r k =
    let high : h * 2 ^ suc k / 2 ≡ h * 2 ^ k = omega (arith, mul_pow-suc h k) in
    let even : h * 2 ^ suc k % 2 ≡ 0 = omega (arith, mul_pow-suc h k) in
    let half = xor_shr (h * 2 ^ suc k) r 1 ∙ ap (λ z. bit_xor z (r / 2)) high in
    let low = xor_mod (h * 2 ^ suc k) r 1 ∙ ap (λ z. bit_xor z (r % 2)) even in
    ap₂ (λ x y. bit_xor x (y * 0xa001)) half low ∙ xor_assoc (h * 2 ^ k) (r / 2) (r % 2 * 0xa001)

-- ---- some bits

pub shifted_high : (k h r : ℕ) → shifted k (bit_xor (h * 2 ^ k) r) ≡ bit_xor h (shifted k r)
shifted_high zero h r = ap (λ z. bit_xor z r) (mul-one h)
shifted_high (suc k) h r = ap (shifted k) (shift_high h r k) ∙ shifted_high k h (shift r)

shifted_lt : (k r : ℕ) → r < 2 ^ 16 → shifted k r < 2 ^ 16
shifted_lt zero r h = h
shifted_lt (suc k) r h = shifted_lt k (shift r) (shift_lt r h)

nothing : (r : ℕ) → IsSumOfCopies (bit_xor r (r * 1))
nothing r = ([], ap (bit_xor r) (mul-one r) ∙ xor_self r)

shifted_leaves : (k r : ℕ) → IsSumOfCopies (bit_xor r (shifted k r * 2 ^ k))
shifted_leaves zero r = nothing r
shifted_leaves (suc k) r =
    let last = shifted k (shift r) in
    let rest : IsSumOfCopies (bit_xor (2 * shift r) (last * 2 ^ suc k)) =
    subst IsSumOfCopies (sym (xor_double (shift r) (last * 2 ^ k)) ∙ ap (bit_xor (2 * shift r)) (mul_pow-suc last k))
    (IsSumOfCopies_double (bit_xor (shift r) (last * 2 ^ k)) (shifted_leaves k (shift r))) in
    subst IsSumOfCopies (xor_cancel r (2 * shift r) (last * 2 ^ suc k))
    (IsSumOfCopies-xor (bit_xor r (2 * shift r)) (bit_xor (2 * shift r) (last * 2 ^ suc k)) (shift_leaves r) rest)

-- ---- one byte

after_byte_lt : (r b : ℕ) → r < 2 ^ 16 → b < 256 → after_byte r b < 2 ^ 16
unfolding after_byte
after_byte_lt r b h k = shifted_lt 8 (bit_xor r b) (xor_lt 16 r b h (omega arith))

after_byte_leaves : (r b : ℕ) → IsSumOfCopies (bit_xor (bit_xor r b) (after_byte r b * 2 ^ 8))
unfolding after_byte
after_byte_leaves r b = shifted_leaves 8 (bit_xor r b)

-- ---- the register is a sum without carry: of what each part of it, and each byte, leaves

bit_times : (p q : ℕ) → p < 2 → q < 2 → bit_xor p q * 0xa001 ≡ bit_xor (p * 0xa001) (q * 0xa001)
bit_times zero zero h k = refl
bit_times zero (suc zero) h k = refl
bit_times (suc zero) zero h k = refl
bit_times (suc zero) (suc zero) h k = refl
bit_times (suc (suc p)) q h k = absurd (omega arith)
bit_times p (suc (suc q)) h k = absurd (omega arith)

shift-xor : (a b : ℕ) → shift (bit_xor a b) ≡ bit_xor (shift a) (shift b)
unfolding shift
shift-xor a b =
    ap₂ (λ x y. bit_xor x (y * 0xa001)) (xor_shr a b 1) (xor_mod a b 1)
    ∙ ap (bit_xor (bit_xor (a / 2) (b / 2))) (bit_times (a % 2) (b % 2) (omega arith) (omega arith))
    ∙ xor_swap (a / 2) (b / 2) (a % 2 * 0xa001) (b % 2 * 0xa001)

shifted-xor : (k a b : ℕ) → shifted k (bit_xor a b) ≡ bit_xor (shifted k a) (shifted k b)
shifted-xor zero a b = refl
shifted-xor (suc k) a b = ap (shifted k) (shift-xor a b) ∙ shifted-xor k (shift a) (shift b)

-- a byte goes in beside a byte of 0
pub after_byte_beside : (r b : ℕ) → after_byte r b ≡ bit_xor (after_byte r 0) (after_byte b 0)
unfolding after_byte
after_byte_beside r b =
    shifted-xor 8 r b ∙ ap₂ (λ x y. bit_xor (shifted 8 x) (shifted 8 y)) (sym (xor_zero_r r)) (sym (xor_zero_r b))

after_zero-xor : (a b : ℕ) → after_byte (bit_xor a b) 0 ≡ bit_xor (after_byte a 0) (after_byte b 0)
unfolding after_byte
after_zero-xor a b =
    ap (shifted 8) (xor_zero_r (bit_xor a b)) ∙ shifted-xor 8 a b ∙ ap₂ (λ x y. bit_xor (shifted 8 x) (shifted 8 y)) (sym (xor_zero_r a))
    (sym (xor_zero_r b))

-- the high byte of a register comes down
after_zero_high : (h : ℕ) → after_byte (h * 2 ^ 8) 0 ≡ h
unfolding after_byte shift
after_zero_high h = shifted_high 8 h 0 ∙ xor_zero_r h

pub after_zeros-xor : (n a b : ℕ) → after_zeros n (bit_xor a b) ≡ bit_xor (after_zeros n a) (after_zeros n b)
unfolding after_zeros
after_zeros-xor zero a b = refl
after_zeros-xor (suc n) a b = ap (λ r. after_byte r 0) (after_zeros-xor n a b) ∙ after_zero-xor (after_zeros n a) (after_zeros n b)

after_zeros-suc : (n r : ℕ) → after_zeros n (after_byte r 0) ≡ after_zeros (suc n) r
unfolding after_zeros
after_zeros-suc zero r = refl
after_zeros-suc (suc n) r = ap (λ x. after_byte x 0) (after_zeros-suc n r)

-- a register of 16 bits as its two bytes
pub after_zeros_halves : (n r : ℕ) → after_zeros (suc n) r ≡ bit_xor (after_zeros (suc n) (r % 256)) (after_zeros n (r / 256))
after_zeros_halves n r =
    let low : r % 256 < 2 ^ 8 = omega arith in
    let apart : r ≡ bit_xor (r / 256 * 2 ^ 8) (r % 256) = sym (xor_shifted (r / 256) 8 (r % 256) low ∙ omega arith) in
    ap (after_zeros (suc n)) apart ∙ after_zeros-xor (suc n) (r / 256 * 2 ^ 8) (r % 256)
    ∙ xor_comm (after_zeros (suc n) (r / 256 * 2 ^ 8)) (after_zeros (suc n) (r % 256))
    ∙ ap (bit_xor (after_zeros (suc n) (r % 256))) (sym (after_zeros-suc n (r / 256 * 2 ^ 8)) ∙ ap (after_zeros n) (after_zero_high (r / 256)))

-- what some bytes leave, each behind its zeros
abbrev left_by : List ℕ → ℕ
left_by [] = 0
left_by (b ∷ bs) = bit_xor (after_zeros (suc (length bs)) b) (left_by bs)

after_bytes : (r : ℕ) (bs : List ℕ) → fold after_byte r bs ≡ bit_xor (after_zeros (length bs) r) (left_by bs)
unfolding after_zeros
after_bytes r [] = sym (xor_zero_r r)
after_bytes r (b ∷ bs) =
    let n = length bs in
    after_bytes (after_byte r b) bs
    ∙ ap (λ x. bit_xor (after_zeros n x) (left_by bs)) (after_byte_beside r b)
    ∙ ap (λ x. bit_xor x (left_by bs)) (after_zeros-xor n (after_byte r 0) (after_byte b 0) ∙ ap₂ bit_xor (after_zeros-suc n r) (after_zeros-suc n b))
    ∙ xor_assoc (after_zeros (suc n) r) (after_zeros (suc n) b) (left_by bs)

-- the first two of eight bytes meet the register's own
pub after_eight_bytes : (r : ℕ) (bs : List ℕ) → length bs ≡ 8
    → bit_xor (bit_xor (bit_xor (bit_xor (bit_xor (bit_xor (bit_xor (after_zeros 8 (bit_xor (r % 256) (get_or bs 0 0)))
    (after_zeros 7 (bit_xor (r / 256) (get_or bs 1 0)))) (after_zeros 6 (get_or bs 2 0))) (after_zeros 5 (get_or bs 3 0)))
    (after_zeros 4 (get_or bs 4 0))) (after_zeros 3 (get_or bs 5 0)))
    (after_zeros 2 (get_or bs 6 0))) (after_zeros 1 (get_or bs 7 0))
    ≡ fold after_byte r bs
after_eight_bytes r (b0 ∷ b1 ∷ b2 ∷ b3 ∷ b4 ∷ b5 ∷ b6 ∷ b7 ∷ []) eight =
    let low = after_zeros 8 (r % 256) in
    let high = after_zeros 7 (r / 256) in
    let first = after_zeros 8 b0 in
    let second = after_zeros 7 b1 in
    let rest = left_by (b2 ∷ b3 ∷ b4 ∷ b5 ∷ b6 ∷ b7 ∷ []) in
    let met : bit_xor (bit_xor (after_zeros 8 (bit_xor (r % 256) b0)) (after_zeros 7 (bit_xor (r / 256) b1))) rest ≡ fold after_byte r
    (b0 ∷ b1 ∷ b2 ∷ b3 ∷ b4 ∷ b5 ∷ b6 ∷ b7 ∷ []) =
    ap₂ (λ x y. bit_xor (bit_xor x y) rest) (after_zeros-xor 8 (r % 256) b0) (after_zeros-xor 7 (r / 256) b1)
    ∙ ap (λ z. bit_xor z rest) (xor_swap low first high second)
    ∙ xor_assoc (bit_xor low high) (bit_xor first second) rest
    ∙ ap₂ bit_xor (sym (after_zeros_halves 7 r)) (xor_assoc first second rest)
    ∙ sym (after_bytes r (b0 ∷ b1 ∷ b2 ∷ b3 ∷ b4 ∷ b5 ∷ b6 ∷ b7 ∷ [])) in
    let ends : after_zeros 1 b7 ≡ left_by (b7 ∷ []) = sym (xor_zero_r (after_zeros 1 b7)) in
    rw ends (simp xor_assoc (simp xor_assoc at met))
after_eight_bytes r bs eight = absurd (omega arith)

-- ---- rows of bytes

-- how many bits the row of some bytes has
abbrev width : List ℕ → ℕ
width [] = 0
width (b ∷ bs) = width bs + 8

row_of_byte : (b row : ℕ) → b < 256 → b + 256 * row ≡ bit_xor (row * 2 ^ 8) b
row_of_byte b row h = sym (xor_shifted row 8 b h ∙ omega arith)

row_lt : (bs : List ℕ) → AreBytes bs → row_of bs < 2 ^ width bs
row_lt [] h = omega arith
row_lt (b ∷ bs) h =
    let rest = row_lt bs (λ i. h (suc i)) in
    let first : b < 256 = h 0 in
    omega (arith, pow-add 2 (width bs) 8)

row_sum : (xs ys : List ℕ) → row_of (xs ++ ys) ≡ row_of ys * 2 ^ width xs + row_of xs
row_sum [] ys = omega arith
row_sum (x ∷ xs) ys =
    let rest = row_sum xs ys in
    let power : row_of ys * 2 ^ (width xs + 8) ≡ row_of ys * 2 ^ width xs * 256 =
    ap (λ z. row_of ys * z) (pow-add 2 (width xs) 8) ∙ sym (mul_assoc (row_of ys) (2 ^ width xs) 256) in
    omega arith

row_of-append : (xs ys : List ℕ) → AreBytes xs → row_of (xs ++ ys) ≡ bit_xor (row_of ys * 2 ^ width xs) (row_of xs)
row_of-append xs ys h = row_sum xs ys ∙ sym (xor_shifted (row_of ys) (width xs) (row_of xs) (row_lt xs h))

-- ---- the check of a field

fold_lt : (r : ℕ) (field : List ℕ) → r < 2 ^ 16 → AreBytes field → fold after_byte r field < 2 ^ 16
fold_lt r [] h k = h
fold_lt r (b ∷ bs) h k = fold_lt (after_byte r b) bs (after_byte_lt r b h (k 0)) (λ i. k (suc i))

pub check_of_lt : (field : List ℕ) → AreBytes field → check_of field < 2 ^ 16
unfolding check_of
check_of_lt field h = fold_lt 0 field (omega arith) h

-- the register at first, the row that went in and the register at last, behind that row, are a sum of copies
fold_leaves : (r : ℕ) (field : List ℕ) → AreBytes field →
    IsSumOfCopies (bit_xor (bit_xor r (row_of field)) (fold after_byte r field * 2 ^ width field))
fold_leaves r [] h = subst (λ z. IsSumOfCopies (bit_xor z (r * 1))) (sym (xor_zero_r r)) (nothing r)
fold_leaves r (b ∷ bs) h =
    let next = after_byte r b in
    let row = row_of bs in
    let last = fold after_byte next bs * 2 ^ width bs in
    let ends : last * 2 ^ 8 ≡ fold after_byte next bs * 2 ^ (width bs + 8) =
    mul_assoc (fold after_byte next bs) (2 ^ width bs) (2 ^ 8) ∙ ap (λ z. fold after_byte next bs * z) (sym (pow-add 2 (width bs) 8)) in
    let spread : bit_xor (bit_xor next row) last * 2 ^ 8 ≡ bit_xor (next * 2 ^ 8) (bit_xor (row * 2 ^ 8) (last * 2 ^ 8)) =
    sym (xor-mul_pow (bit_xor next row) last 8) ∙ ap (λ z. bit_xor z (last * 2 ^ 8)) (sym (xor-mul_pow next row 8))
    ∙ xor_assoc (next * 2 ^ 8) (row * 2 ^ 8) (last * 2 ^ 8) in
    let rest = subst IsSumOfCopies spread (IsSumOfCopies-mul_pow (bit_xor (bit_xor next row) last) 8 (fold_leaves next bs (λ i. h (suc i)))) in
    let whole = subst IsSumOfCopies (xor_cancel (bit_xor r b) (next * 2 ^ 8) (bit_xor (row * 2 ^ 8) (last * 2 ^ 8)))
    (IsSumOfCopies-xor (bit_xor (bit_xor r b) (next * 2 ^ 8)) _ (after_byte_leaves r b) rest) in
    let first : bit_xor (bit_xor r b) (row * 2 ^ 8) ≡ bit_xor r (b + 256 * row) =
    xor_assoc r b (row * 2 ^ 8) ∙ ap (bit_xor r) (xor_comm b (row * 2 ^ 8) ∙ sym (row_of_byte b row (h 0))) in
    subst IsSumOfCopies (sym (xor_assoc (bit_xor r b) (row * 2 ^ 8) (last * 2 ^ 8)) ∙ ap₂ bit_xor first ends) whole

pub check_leaves : (field : List ℕ) → AreBytes field → IsSumOfCopies (bit_xor (row_of field) (check_of field * 2 ^ width field))
unfolding check_of
check_leaves field h = fold_leaves 0 field h

pub copies_from_check : (field end : List ℕ) → AreBytes field → row_of end ≡ check_of field → IsSumOfCopies (row_of (field ++ end))
copies_from_check field end h e =
    subst IsSumOfCopies (ap (λ z. bit_xor (row_of field) (z * 2 ^ width field)) (sym e) ∙ xor_comm (row_of field) (row_of end * 2 ^ width field) ∙
    sym (row_of-append field end h))
    (check_leaves field h)

pub check_from_copies : (field end : List ℕ) → AreBytes field → row_of end < 2 ^ 16 → IsSumOfCopies (row_of (field ++ end)) →
    row_of end ≡ check_of field
check_from_copies field end h small copies =
    let c = check_of field * 2 ^ width field in
    let e = row_of end * 2 ^ width field in
    let both = IsSumOfCopies-xor (bit_xor e (row_of field)) (bit_xor (row_of field) c) (subst IsSumOfCopies (row_of-append field end h) copies)
    (check_leaves field h) in
    let behind = subst IsSumOfCopies (xor_cancel e (row_of field) c ∙ xor-mul_pow (row_of end) (check_of field) (width field)) both in
    let low = IsSumOfCopies_low (bit_xor (row_of end) (check_of field)) (width field) behind in
    same_from_xor (row_of end) (check_of field)
    (zero_below (bit_xor (row_of end) (check_of field)) low (xor_lt 16 (row_of end) (check_of field) small (check_of_lt field h)))

-- at the end of a field with its check behind it, and of no other, the register is 0
pub copies_from_none : (bytes : List ℕ) → AreBytes bytes → check_of bytes ≡ 0 → IsSumOfCopies (row_of bytes)
copies_from_none bytes h e =
    subst IsSumOfCopies (ap (λ z. bit_xor (row_of bytes) (z * 2 ^ width bytes)) e ∙ ap (bit_xor (row_of bytes)) (none_times (2 ^ width bytes)) ∙
    xor_zero_r (row_of bytes)) (check_leaves bytes h)
  where
    none_times : (n : ℕ) → 0 * n ≡ 0
    none_times n = omega arith

pub none_from_copies : (bytes : List ℕ) → AreBytes bytes → IsSumOfCopies (row_of bytes) → check_of bytes ≡ 0
none_from_copies bytes h copies =
    let row = row_of bytes in
    let c = check_of bytes * 2 ^ width bytes in
    let same : bit_xor row (bit_xor row c) ≡ c = sym (xor_assoc row row c) ∙ ap (λ z. bit_xor z c) (xor_self row) in
    let behind = subst IsSumOfCopies same (IsSumOfCopies-xor row (bit_xor row c) copies (check_leaves bytes h)) in
    zero_below (check_of bytes) (IsSumOfCopies_low (check_of bytes) (width bytes) behind) (check_of_lt bytes h)

-- two rows that differ in one byte alone are not both sums of copies
pub one_byte_shows : (before after : List ℕ) (x y : ℕ) → AreBytes before → x < 256 → y < 256
    → IsSumOfCopies (row_of (before ++ x ∷ after)) → IsSumOfCopies (row_of (before ++ y ∷ after)) → x ≡ y
one_byte_shows before after x y h hx hy p q =
    let high = row_of after * 2 ^ 8 in
    let w = width before in
    let row = row_of before in
    let at : (b : ℕ) → b < 256 → row_of (before ++ b ∷ after) ≡ bit_xor (bit_xor high b * 2 ^ w) row =
    λ b k. row_of-append before (b ∷ after) h ∙ ap (λ z. bit_xor (z * 2 ^ w) row) (row_of_byte b (row_of after) k) in
    let second = subst IsSumOfCopies (at y hy ∙ xor_comm (bit_xor high y * 2 ^ w) row) q in
    let both = IsSumOfCopies-xor _ (bit_xor row (bit_xor high y * 2 ^ w)) (subst IsSumOfCopies (at x hx) p) second in
    let apart : bit_xor (bit_xor high x) (bit_xor high y) ≡ bit_xor x y =
    xor_swap high x high y ∙ ap (λ z. bit_xor z (bit_xor x y)) (xor_self high) in
    let alone = subst IsSumOfCopies
    (xor_cancel (bit_xor high x * 2 ^ w) row (bit_xor high y * 2 ^ w) ∙ xor-mul_pow (bit_xor high x) (bit_xor high y) w ∙ ap (λ z. z * 2 ^ w) apart)
    both in
    same_from_xor x y (zero_below (bit_xor x y) (IsSumOfCopies_low (bit_xor x y) w alone) (xor_lt 16 x y (omega arith) (omega arith)))

-- ---- the check, byte by byte

pub check_of_none : check_of [] ≡ 0
unfolding check_of
check_of_none = refl

pub check_of_more : (bytes : List ℕ) (i : ℕ) → i < length bytes → check_of (take (i + 1) bytes) ≡ after_byte (check_of (take i bytes))
    (get_or bytes i 0)
unfolding check_of
check_of_more bytes i h = fold_more after_byte 0 bytes i 0 h

-- the check of a field, some bytes at once
pub check_of_piece : (bytes : List ℕ) (i n : ℕ) → check_of (take (i + n) bytes) ≡ fold after_byte (check_of (take i bytes)) (take n (drop i bytes))
unfolding check_of
check_of_piece bytes i n = ap (fold after_byte 0) (take-add i n bytes) ∙ fold-append after_byte 0 (take i bytes) (take n (drop i bytes))
