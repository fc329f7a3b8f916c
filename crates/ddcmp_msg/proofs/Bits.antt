-- The flags of a byte, as the code tests them and as their definition does.
use Rattle.std.proofs.Common.{◌≡◌, ℕ, zero, suc, ◌*◌, ◌/◌, ◌%◌, ◌^◌, ◌<◌, Bool, not, refl, arith}
use Rattle.std.specs.Prelude.{bit_and, nat_eq}
use Rattle.std.proofs.lemmas.Nat.Bits.{and_pow, bit_at-lt}
use Rattle.std.proofs.lemmas.Bool.Decides.{nat_tests}
use Rattle.ddcmp_msg.specs.declared.flags.Flags.{Flags}
use Rattle.ddcmp_msg.specs.Message.{flags_of}

-- a bit is there exactly where it is 1
one_bit : (b w : ℕ) → 0 < w → b < 2 → not (nat_eq (b * w) 0) ≡ nat_eq b 1
one_bit zero w h lt = grind (arith, nat_tests)
one_bit (suc zero) w h lt = grind (arith, nat_tests)
one_bit (suc (suc b)) w h lt = absurd (omega arith)

bit_test : (n k w : ℕ) → w ≡ 2 ^ k → 0 < w → not (nat_eq (bit_and n w) 0) ≡ nat_eq (n / w % 2) 1
bit_test n k w e h =
    let b : n / 2 ^ k % 2 < 2 = bit_at-lt n k in
    rw (e, and_pow n k) (one_bit (n / 2 ^ k % 2) (2 ^ k) (rw (← e) h) b)

abbrev pub made : Bool → Bool → Flags
made quick_sync select = record { quick_sync = quick_sync; select = select }

pub tested : (n : ℕ) → made (not (nat_eq (bit_and n 64) 0)) (not (nat_eq (bit_and n 128) 0)) ≡ flags_of n
tested n = rw (bit_test n 6 64 refl (omega arith), bit_test n 7 128 refl (omega arith)) refl
