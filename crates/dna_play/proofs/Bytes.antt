-- Lists whose numbers are bytes: their parts, words and addresses in them, and one of them changed.
use Rattle.dna_play.proofs.Prelude.{◌≡◌, ℕ, zero, suc, ◌/◌, ◌%◌, ◌<◌, ◌≤◌, Bool, true, ◌&&◌, List, [], ◌∷◌, ◌++◌, refl, ap₂, arith, lt-ltb}
use Rattle.dna_play.proofs.Prelude.{ltb-true, bit_xor, drop, length, slice_index, slice_set, take, and_parts, xor_of_8, AreBytes-append}
use Rattle.dna_play.proofs.Prelude.{AreBytes-drop, AreBytes-take, IsBytes-head, IsBytes-rest, word, are_bytes, damaged}

-- a list of bytes that is not too long
pub record HasBytes (most : ℕ) (bytes : List ℕ) : Type 0 where
  pub are : are_bytes bytes ≡ true
  pub few : length bytes ≤ most

-- one more in front
pub front : (n : ℕ) (bytes : List ℕ) → n < 256 → are_bytes bytes ≡ true → are_bytes (n ∷ bytes) ≡ true
front n bytes l e = ap₂ (λ (b c : Bool). b && c) (lt-ltb n 256 l) e

-- ---- from the test and to it

pub bytes_told : (bytes : List ℕ) → are_bytes bytes ≡ true → (i : ℕ) → slice_index bytes i < 256
bytes_told [] e i = omega arith
bytes_told (b ∷ bytes) e zero = ltb-true b 256 (and_parts _ _ e).0
bytes_told (b ∷ bytes) e (suc i) = bytes_told bytes (and_parts _ _ e).1 i

pub bytes_tested : (bytes : List ℕ) → ((i : ℕ) → slice_index bytes i < 256) → are_bytes bytes ≡ true
bytes_tested [] h = refl
bytes_tested (b ∷ bytes) h = front b bytes (h 0) (bytes_tested bytes (λ i. h (suc i)))

-- ---- parts

pub joined_bytes : (xs ys : List ℕ) → are_bytes xs ≡ true → are_bytes ys ≡ true → are_bytes (xs ++ ys) ≡ true
joined_bytes xs ys e f = bytes_tested (xs ++ ys) (AreBytes-append xs ys (bytes_told xs e) (bytes_told ys f))

pub first_part : (xs ys : List ℕ) → are_bytes (xs ++ ys) ≡ true → are_bytes xs ≡ true
first_part xs ys e = bytes_tested xs (IsBytes-head xs ys (bytes_told (xs ++ ys) e))

pub second_part : (xs ys : List ℕ) → are_bytes (xs ++ ys) ≡ true → are_bytes ys ≡ true
second_part xs ys e = bytes_tested ys (IsBytes-rest xs ys (bytes_told (xs ++ ys) e))

pub taken : (n : ℕ) (bytes : List ℕ) → are_bytes bytes ≡ true → are_bytes (take n bytes) ≡ true
taken n bytes e = bytes_tested (take n bytes) (AreBytes-take n bytes (bytes_told bytes e))

pub left : (n : ℕ) (bytes : List ℕ) → are_bytes bytes ≡ true → are_bytes (drop n bytes) ≡ true
left n bytes e = bytes_tested (drop n bytes) (AreBytes-drop n bytes (bytes_told bytes e))

-- ---- a word, and two of them behind a flag

pub word_bytes : (n : ℕ) → are_bytes (word n) ≡ true
word_bytes n = front (n % 256) ((n / 256 % 256) ∷ []) (omega arith) (front (n / 256 % 256) [] (omega arith) refl)

pub addressed : (flag a b : ℕ) (rest : List ℕ) → flag < 256 → are_bytes rest ≡ true → are_bytes (flag ∷ ((word a ++ word b) ++ rest)) ≡ true
addressed flag a b rest l e =
    front flag ((word a ++ word b) ++ rest) l (joined_bytes (word a ++ word b) rest (joined_bytes (word a) (word b) (word_bytes a) (word_bytes b)) e)

-- ---- one of them is another

with_byte : (bytes : List ℕ) (place y : ℕ) → y < 256 → are_bytes bytes ≡ true → are_bytes (slice_set bytes place y) ≡ true
with_byte [] place y l e = refl
with_byte (b ∷ bytes) zero y l e = front y bytes l (and_parts _ _ e).1
with_byte (b ∷ bytes) (suc place) y l e =
    let p = and_parts _ _ e in ap₂ (λ (b c : Bool). b && c) p.0 (with_byte bytes place y l p.1)

pub damaged_bytes : (place value : ℕ) (bytes : List ℕ) → value < 256 → are_bytes bytes ≡ true → are_bytes (damaged place value bytes) ≡ true
damaged_bytes place value bytes l e =
    with_byte bytes place (bit_xor (slice_index bytes place) value) (xor_of_8 (slice_index bytes place) value (bytes_told bytes e place) l) e
