-- The byte of two digits is what they spell, and bytes that are spelled one after the other are spelled together.
use Rattle.std.proofs.Common.{◌≡◌, ℕ, zero, suc, ◌+◌, ◌*◌, ◌/◌, ◌%◌, ◌<◌, ◌≤◌, ◌^◌, Bool, true, false, eqb, ◌&&◌, List, [], ◌∷◌, ◌++◌}
use Rattle.std.proofs.Common.{length, take, drop, get_or, set}
use Rattle.std.proofs.Common.{Option, Some, None, is_some, refl, sym, ap, ap₂, ◌∙◌, arith, bit_and, bit_or}
use Rattle.std.specs.List.{list_all}
use Rattle.std.proofs.lemmas.Bool.{and_parts, and_right, eqb-true}
use Rattle.std.proofs.lemmas.Grind.{take_at_read}
use Rattle.std.proofs.lemmas.List.{take_more_set, take_at, take_all, take-take, take-append-drop, append_assoc, length-append, length-take-le}
use Rattle.std.proofs.lemmas.List.Folds.{list_all_more, list_all-append}
use Rattle.std.proofs.Math.Bool.{and_assoc}
use Rattle.std.proofs.Math.Seq.{take-add}
use Rattle.std.specs.Prelude.{if◌then◌else◌}
use Rattle.hex.specs.Hex.{IsBytes, encode_lower, encode_with, is_hex_digit, hex_digit_value, lower_digits}
use Rattle.capture.specs.Reading.{is_digit, is_lower, pairs_at}
use Rattle.capture.specs.inner.Spelled.{IsSpelled}
use Rattle.capture.proofs.BytesLaws.{all_below, all_below-at, digit_back}
use Rattle.capture.proofs.DigitsLaws.{pairs_of_spelling, pairs_of_others}

-- ---- two digits

-- the values of two digits, each in a byte of its own
abbrev values : ℕ → ℕ
values digits = (bit_and digits 3855 + bit_and (digits / 64) 257 * 9 % 65536) % 65536

-- the byte of such values
abbrev joined : ℕ → ℕ
joined both = bit_and (bit_or (both * 2 ^ 4 % 2 ^ 16) (both / 256)) 255

abbrev pub byte_of : ℕ → ℕ → ℕ
byte_of high low = joined (values (high + low * 256 ^ 1))

is_right : ℕ → ℕ → Bool
is_right v w =
    let high = get_or lower_digits v 0 in
    let low = get_or lower_digits w 0 in
    let byte = byte_of high low in
    eqb (get_or lower_digits (byte / 16) 0) high && eqb (get_or lower_digits (byte % 16) 0) low

all_right : (v w : ℕ) → v < 16 → w < 16 → is_right v w ≡ true
unfolding all_below is_right
all_right v w a b = all_below-at (is_right v) 16 w (all_below-at (λ k. all_below (is_right k) 16) 16 v refl a) b

-- the value of a digit
digit_found : (d : ℕ) → is_digit d ≡ true → (v : ℕ) × (get_or lower_digits v 0 ≡ d) × (v < 16)
digit_found d e =
    let parts = and_parts (is_lower d) (is_hex_digit d) e in
    of_value (hex_digit_value d) refl parts.1
  where
    of_value : (o : Option ℕ) → hex_digit_value d ≡ o → is_some o ≡ true → (v : ℕ) × (get_or lower_digits v 0 ≡ d) × (v < 16)
    of_value (Some v) is some = let back = digit_back d v (and_parts (is_lower d) (is_hex_digit d) e).0 is in (v, back.0, back.1)
    of_value None is some = absurd cc

-- two digits are how `hex` spells their byte
pub byte_right : (high low : ℕ) → is_digit high ≡ true → is_digit low ≡ true →
    (get_or lower_digits (byte_of high low / 16) 0 ≡ high) × (get_or lower_digits (byte_of high low % 16) 0 ≡ low)
unfolding is_right
byte_right high low a b =
    let h = digit_found high a in
    let l = digit_found low b in
    by_values high low h.0 l.0 h.1 l.1 (all_right h.0 l.0 h.2 l.2)
  where
    by_values : (high low v w : ℕ) → get_or lower_digits v 0 ≡ high → get_or lower_digits w 0 ≡ low → is_right v w ≡ true →
        (get_or lower_digits (byte_of high low / 16) 0 ≡ high) × (get_or lower_digits (byte_of high low % 16) 0 ≡ low)
    by_values high low v w is also e =
        rw (← is, ← also) (let parts = and_parts _ _ e in (eqb-true _ _ parts.0, eqb-true _ _ parts.1))

-- ---- bytes one after the other

encode_with-append : (t xs ys : List ℕ) → encode_with t (xs ++ ys) ≡ encode_with t xs ++ encode_with t ys
unfolding encode_with
encode_with-append t [] ys = refl
encode_with-append t (x ∷ xs) ys = rw (encode_with-append t xs ys) refl

-- the first of them
pub none_spelled : (bytes text : List ℕ) → IsSpelled bytes text 0
unfolding encode_with
none_spelled bytes text = refl

-- two characters more
pub two_more : (text : List ℕ) (i : ℕ) → 2 * i + 1 < length text → list_all is_digit (take (2 * (i + 1)) text) ≡
    (list_all is_digit (take (2 * i) text) && (is_digit (get_or text (2 * i) 0) && is_digit (get_or text (2 * i + 1) 0)))
two_more text i lt =
    let whole : 2 * (i + 1) ≡ 2 * i + 1 + 1 = omega arith in
    ap (λ k. list_all is_digit (take k text)) whole ∙ list_all_more is_digit text (2 * i + 1) 0 lt
    ∙ ap (λ t. t && is_digit (get_or text (2 * i + 1) 0)) (list_all_more is_digit text (2 * i) 0 (omega (arith, lt)))
    ∙ and_assoc (list_all is_digit (take (2 * i) text)) _ _

one_spelled : (byte : ℕ) → encode_lower (byte ∷ []) ≡ get_or lower_digits (byte / 16) 0 ∷ get_or lower_digits (byte % 16) 0 ∷ []
unfolding encode_with
one_spelled byte = refl

-- one byte more
pub byte_spelled : (bytes text : List ℕ) (i byte : ℕ) → i < length bytes → length text ≡ 2 * length bytes → IsSpelled bytes text i
    → get_or lower_digits (byte / 16) 0 ≡ get_or text (2 * i) 0 → get_or lower_digits (byte % 16) 0 ≡ get_or text (2 * i + 1) 0
    → IsSpelled (set bytes i byte) text (i + 1)
byte_spelled bytes text i byte lt twice before high low =
    let whole : 2 * (i + 1) ≡ 2 * i + 1 + 1 = omega arith in
    ap encode_lower (take_more_set bytes i byte lt) ∙ encode_with-append lower_digits (take i bytes) (byte ∷ [])
    ∙ rw (
      one_spelled byte,
      before,
      high,
      low,
      whole,
      (take_at_read text (2 * i + 1) 0 (omega (arith, twice))).1,
      (take_at_read text (2 * i) 0 (omega (arith, twice))).1,
    ) (sym (append_assoc (take (2 * i) text) _ _))

take_none : (n : ℕ) → take {A = ℕ} n [] ≡ []
take_none zero = refl
take_none (suc n) = refl

encode_with-take : (t : List ℕ) (n : ℕ) (xs : List ℕ) → encode_with t (take n xs) ≡ take (2 * n) (encode_with t xs)
unfolding encode_with
encode_with-take t zero xs = refl
encode_with-take t (suc n) [] = sym (take_none (2 * suc n))
encode_with-take t (suc n) (x ∷ xs) =
    let twice : 2 * suc n ≡ suc (suc (2 * n)) = omega arith in
    rw (twice, encode_with-take t n xs) refl

-- a byte written among bytes
pub bytes_set : (bytes : List ℕ) (i byte : ℕ) → byte < 256 → IsBytes bytes → IsBytes (set bytes i byte)
bytes_set [] i byte small fits j = fits j
bytes_set (x ∷ bytes) zero byte small fits zero = small
bytes_set (x ∷ bytes) zero byte small fits (suc j) = fits (suc j)
bytes_set (x ∷ bytes) (suc i) byte small fits zero = fits zero
bytes_set (x ∷ bytes) (suc i) byte small fits (suc j) = bytes_set bytes i byte small (λ k. fits (suc k)) j

-- fewer of them
pub fewer_spelled : (bytes text : List ℕ) (n m : ℕ) → n ≤ m → IsSpelled bytes text m → IsSpelled bytes text n
fewer_spelled bytes text n m le e =
    ap encode_lower (sym (take-take n m bytes le)) ∙ encode_with-take lower_digits n (take m bytes) ∙ ap (take (2 * n)) e
    ∙ take-take (2 * n) (2 * m) text (omega arith)

-- all of them
pub all_spelled : (bytes text : List ℕ) (n : ℕ) → length bytes ≡ n → length text ≡ 2 * length bytes → IsSpelled bytes text n
    → encode_lower bytes ≡ text
all_spelled bytes text n long twice e =
    ap encode_lower (sym (take_all n bytes (omega (arith, long)))) ∙ e ∙ take_all (2 * n) text (omega (arith, long, twice))

-- a piece more
pub piece_spelled : (bytes text piece rest : List ℕ) (at n m : ℕ) → length piece ≡ n → m ≡ 2 * n → at ≤ length bytes → IsSpelled bytes text at
    → IsSpelled piece (take m (drop (2 * at) text)) n → IsSpelled (take at bytes ++ (piece ++ rest)) text (at + n)
piece_spelled bytes text piece rest at n m long both within before e =
    let front = take at bytes in
    let size : length (front ++ piece) ≡ at + n = length-append front piece ∙ ap₂ ◌+◌ (length-take-le at bytes within) long in
    let whole : 2 * (at + n) ≡ 2 * at + 2 * n = omega arith in
    let here : encode_lower piece ≡ take (2 * n) (drop (2 * at) text) =
    ap encode_lower (sym (take_all n piece (omega (arith, long)))) ∙ e ∙ take-take (2 * n) m (drop (2 * at) text) (omega (arith, both)) in
    ap (λ xs. encode_lower (take (at + n) xs)) (sym (append_assoc front piece rest))
    ∙ ap encode_lower (take_at (front ++ piece) rest (at + n) size) ∙ encode_with-append lower_digits front piece
    ∙ ap₂ ◌++◌ before here ∙ sym (take-add (2 * at) (2 * n) text) ∙ ap (λ k. take k text) (sym whole)

-- where a piece of a text is not digits alone, the text is not
pub others_within : (text : List ℕ) (k m : ℕ) → list_all is_digit (take m (drop k text)) ≡ false → list_all is_digit text ≡ false
others_within text k m e =
    sym (ap (list_all is_digit) (take-append-drop k text)) ∙ list_all-append is_digit (take k text) (drop k text)
    ∙ and_right (list_all is_digit (take k text)) _
    (sym (ap (list_all is_digit) (take-append-drop m (drop k text))) ∙ list_all-append is_digit (take m (drop k text)) (drop m (drop k text))
    ∙ rw e refl)

-- ---- pairs of digits

-- what is spelled is read
pub pairs_of_spelled : (text bytes : List ℕ) (n : ℕ) → 0 < length bytes → IsBytes bytes → length bytes ≡ n → length text ≡ 2 * length bytes
    → IsSpelled bytes text n → pairs_at text ≡ Some bytes
pairs_of_spelled text bytes n some fits long twice e = pairs_of_spelling text bytes some fits (all_spelled bytes text n long twice e)

-- what is spelled where a test holds, and is no digits where it fails, is read by that test
pub pairs_by : (text bytes : List ℕ) (n : ℕ) (test : Bool) → 0 < length bytes → IsBytes bytes → length bytes ≡ n → length text ≡ 2 * length bytes
    → (test ≡ true → IsSpelled bytes text n) → (test ≡ false → list_all is_digit text ≡ false) → pairs_at text ≡ (if test then Some bytes else None)
pairs_by text bytes n true some fits long twice spelled others = pairs_of_spelled text bytes n some fits long twice (spelled refl)
pairs_by text bytes n false some fits long twice spelled others = pairs_of_others text (others refl)
