-- Bit 4 of a byte, as the code tests it and as its definition does.
use Rattle.std.proofs.Common.{◌≡◌, ℕ, zero, suc, ◌*◌, ◌/◌, ◌%◌, ◌^◌, ◌<◌, not, arith}
use Rattle.std.specs.Prelude.{bit_and, nat_eq}
use Rattle.std.proofs.lemmas.Nat.Bits.{and_pow, bit_at-lt}
use Rattle.std.proofs.lemmas.Bool.Decides.{nat_tests}

-- a bit is there exactly where it is 1
one_bit : (b w : ℕ) → 0 < w → b < 2 → not (nat_eq (b * w) 0) ≡ nat_eq b 1
one_bit zero w h lt = grind (arith, nat_tests)
one_bit (suc zero) w h lt = grind (arith, nat_tests)
one_bit (suc (suc b)) w h lt = absurd (omega arith)

pub bit_4_test : (n : ℕ) → not (nat_eq (bit_and n 16) 0) ≡ nat_eq (n / 16 % 2) 1
bit_4_test n =
    let b : n / 2 ^ 4 % 2 < 2 = bit_at-lt n 4 in
    rw (and_pow n 4) (one_bit (n / 2 ^ 4 % 2) (2 ^ 4) (omega arith) b)
