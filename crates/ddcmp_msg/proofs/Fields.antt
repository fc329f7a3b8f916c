-- What a header's fields are read as: the flags and what stands below them in one byte, and the reason of a NAK.
use Rattle.std.proofs.Common.{◌≡◌, ℕ, zero, suc, ◌+◌, ◌/◌, ◌%◌, ◌<◌, Bool, true, false, Some, refl, arith}
use Rattle.std.specs.Prelude.{nat_eq}
use Rattle.ddcmp_msg.specs.declared.flags.Flags.{Flags}
use Rattle.ddcmp_msg.specs.declared.nak_reason.NakReason.{NakReason}
use Rattle.ddcmp_msg.specs.declared.nak_reason.NakReason.TheVariants.{HeaderCheck}
use Rattle.ddcmp_msg.specs.Message.{bit, flags_byte, flags_of, reason_number, reason_of}

-- a bit at its place is read as it was written
bit_back : (n : ℕ) (b : Bool) → n ≡ bit b → nat_eq n 1 ≡ b
bit_back n true e = rw e refl
bit_back n false e = rw e refl

bit-lt : (b : Bool) → bit b < 2
bit-lt true = omega arith
bit-lt false = omega arith

pub low_back : (low : ℕ) (flags : Flags) → low < 64 → (low + flags_byte flags) % 64 ≡ low
low_back low flags h = omega (arith, bit-lt flags.quick_sync, bit-lt flags.select)

pub flags_back : (low : ℕ) (flags : Flags) → low < 64 → flags_of (low + flags_byte flags) ≡ flags
flags_back low flags h =
    let q = bit-lt flags.quick_sync in
    let s = bit-lt flags.select in
    let sixth : (low + flags_byte flags) / 64 % 2 ≡ bit flags.quick_sync = omega arith in
    let seventh : (low + flags_byte flags) / 128 % 2 ≡ bit flags.select = omega arith in
    rw (bit_back _ flags.quick_sync sixth, bit_back _ flags.select seventh) refl

-- a byte is the flags that it is read as, and what stands below them
byte_bit : (n : ℕ) → n < 2 → bit (nat_eq n 1) ≡ n
byte_bit zero h = refl
byte_bit (suc zero) h = refl
byte_bit (suc (suc n)) h = absurd (omega arith)

pub byte_again : (byte : ℕ) → byte < 256 → byte % 64 + flags_byte (flags_of byte) ≡ byte
byte_again byte h = omega (arith, byte_bit (byte / 64 % 2) (omega arith), byte_bit (byte / 128 % 2) (omega arith))

pub reason_back : (reason : NakReason) → reason_of (reason_number reason) ≡ Some reason
reason_back HeaderCheck = refl
reason_back other = refl

pub reason-lt : (reason : NakReason) → reason_number reason < 64
reason-lt HeaderCheck = omega arith
reason-lt other = omega arith
