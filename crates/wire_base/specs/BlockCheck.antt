-- The block check of DDCMP (CRC-16; DDCMP 4.1, block check fields): which bytes are a field with its right check after
-- it, as the standard says it in bits, and the check of a field as a function, with the laws that join the two in
-- `src/check_laws.rt`.
--
-- A row of bits is written as a number, its first bit the lowest. A field is sent byte by byte and each byte low bit
-- first, so the row of some bytes is their little-endian number.
use Rattle.std.specs.Prelude.{◌≡◌, ℕ, zero, suc, ◌+◌, ◌-◌, ◌*◌, ◌/◌, ◌%◌, ◌≤◌, Bool, ◌&&◌, ◌==◌, nat_le, if◌then◌else◌, List, [], ◌∷◌, length, take}
use Rattle.std.specs.Prelude.{drop, fold, bit_xor}

-- ---- the rule, in bits

-- the row of bits of some bytes
abbrev pub row_of : List ℕ → ℕ
row_of [] = 0
row_of (byte ∷ bytes) = byte + 256 * row_of bytes

-- the row `1 1000 0000 0000 0101`, of x^16 + x^15 + x^2 + 1 with the highest power first
abbrev pub generator : ℕ
generator = 0b1_0100_0000_0000_0011

-- the sum, without carry, of shifted copies of that row: at each place a copy begins or none does
abbrev pub sum_of_copies : List Bool → ℕ
sum_of_copies [] = 0
sum_of_copies (begins ∷ places) = bit_xor (if begins then generator else 0) (2 * sum_of_copies places)

-- the row is such a sum
abbrev pub IsSumOfCopies : ℕ → Type 0
IsSumOfCopies row = (places : List Bool) × (row ≡ sum_of_copies places)

-- these bytes are a field and after it the two bytes of its right check, the low byte first
pub record HasGoodCheck (bytes : List ℕ) : Type 0 where
  pub two_bytes : 2 ≤ length bytes
  pub copies : IsSumOfCopies (row_of bytes)

-- ---- the check as a function

-- one bit of the row goes out of the register at its low end, and a 1 takes the rest of the generator with it
unfoldable pub shift : ℕ → ℕ
shift register = bit_xor (register / 2) (register % 2 * 0xa001)

abbrev pub shifted : ℕ → ℕ → ℕ
shifted zero register = register
shifted (suc bits) register = shifted bits (shift register)

-- the register after one more byte of the field
unfoldable pub after_byte : ℕ → ℕ → ℕ
after_byte register byte = shifted 8 (bit_xor register byte)

-- the register after so many more bytes that are 0
unfoldable pub after_zeros : ℕ → ℕ → ℕ
after_zeros zero register = register
after_zeros (suc bytes) register = after_byte (after_zeros bytes register) 0

-- the check of a field: the register, 0 at first, after all its bytes
unfoldable pub check_of : List ℕ → ℕ
check_of field = fold after_byte 0 field

-- a word of 16 bits as it is sent, the low byte first
abbrev pub word_bytes : ℕ → List ℕ
word_bytes word = (word % 256) ∷ (word / 256) ∷ []

-- the check of a field as it is sent
abbrev pub check_bytes : List ℕ → List ℕ
check_bytes field = word_bytes (check_of field)

-- at least two bytes, of which the last two are the check of the rest
unfoldable pub is_good : List ℕ → Bool
is_good bytes =
    let rest = length bytes - 2 in
    nat_le 2 (length bytes) && (check_of (take rest bytes) == row_of (drop rest bytes))
