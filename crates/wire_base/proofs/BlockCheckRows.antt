-- The definitions of the block check, computed on known rows of bytes.
use Rattle.std.proofs.Common.{◌≡◌, true, false, [], ◌∷◌, refl}
use Rattle.wire_base.specs.BlockCheck.{check_of, after_byte, shift, is_good, check_bytes}

stack_header : check_bytes (0x05 ∷ 0x07 ∷ 0xc0 ∷ 0x00 ∷ 0x00 ∷ 0x01 ∷ []) ≡ 0x48 ∷ 0x55 ∷ []
unfolding check_of after_byte shift
stack_header = refl

one_byte : check_bytes (0x05 ∷ []) ≡ 0xc0 ∷ 0x03 ∷ []
unfolding check_of after_byte shift
one_byte = refl

start_is_good : is_good (0x05 ∷ 0x06 ∷ 0xc0 ∷ 0x00 ∷ 0x00 ∷ 0x01 ∷ 0x75 ∷ 0x95 ∷ []) ≡ true
unfolding is_good check_of after_byte shift
start_is_good = refl

start_changed : is_good (0x05 ∷ 0x06 ∷ 0xc1 ∷ 0x00 ∷ 0x00 ∷ 0x01 ∷ 0x75 ∷ 0x95 ∷ []) ≡ false
unfolding is_good check_of after_byte shift
start_changed = refl

one_byte_alone : is_good (0x00 ∷ []) ≡ false
unfolding is_good check_of after_byte shift
one_byte_alone = refl

empty_field : is_good (0x00 ∷ 0x00 ∷ []) ≡ true
unfolding is_good check_of after_byte shift
empty_field = refl
