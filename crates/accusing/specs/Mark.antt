-- A number that stands for the bytes of a data message: other marks, other bytes.
use Rattle.std.specs.Prelude.{ℕ, ◌+◌, ◌*◌, ◌%◌, List, fold}
use Rattle.accusing.specs.declared.mark.TheConstants.{FACTOR, MODULUS}

abbrev pub with_byte : ℕ → ℕ → ℕ
with_byte mark byte = (mark * FACTOR + byte) % MODULUS

abbrev pub mark_of : List ℕ → ℕ
mark_of bytes = fold with_byte 1 bytes
