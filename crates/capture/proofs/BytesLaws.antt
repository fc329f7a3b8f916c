-- BYTES: what is read is the one spelling of its bytes, and their spelling is read.
use Rattle.std.proofs.Common.{◌≡◌, ◌≢◌, ℕ, zero, suc, ◌+◌, ◌*◌, ◌/◌, ◌%◌, ◌<◌, ◌≤◌, Bool, true, false, cond, eqb, ltb, leb, ◌&&◌, List, [], ◌∷◌}
use Rattle.std.proofs.Common.{length, get_or, Option, Some, None, Result, Ok, Err, refl, sym, ap, ◌∙◌, inl, inr, arith}
use Rattle.std.specs.Prelude.{codes}
use Rattle.std.specs.List.{list_all}
use Rattle.std.specs.Str.{bytes_eq}
use Rattle.std.proofs.lemmas.Bool.{cases_Bool, and_parts, and_from, and_right, cases_lt, eqb-true, ltb-true, leb-true, leb-false, cond_both}
use Rattle.std.proofs.lemmas.Option.{same_Some}
use Rattle.std.proofs.lemmas.Slice.Eq.{bytes_eq-Decides}
use Rattle.hex.specs.Hex.{IsBytes, decode_of, decode_pairs, hex_digit_value, value_at, pair_value, digit_or_error, encode_lower, encode_with}
use Rattle.hex.specs.Hex.{lower_digits}
use Rattle.hex.specs.Hex as hex
use Rattle.hex.specs.declared.error.FromHexError.{FromHexError}
use Rattle.hex.proofs.HexLemmas.{decode_of-encode_lower, decode_of-ok, decode_of-even}
use Rattle.capture.specs.declared.fault.Departure.{Departure}
use Rattle.capture.specs.declared.fault.Departure.TheVariants.{TooLong}
use Rattle.capture.specs.Text.{bytes_text}
use Rattle.capture.specs.Reading.{◌>>=◌, decoded, is_lower, pairs_at, any_bytes_at, bytes_at}
use Rattle.capture.proofs.PartLaws.{HasNo}
use Rattle.capture.proofs.Shown.{Shows, shows_must}

-- ---- the sixteen digits

-- a fact of each number below n, by a test that computes
unfoldable pub all_below : (ℕ → Bool) → ℕ → Bool
all_below test zero = true
all_below test (suc n) = test n && all_below test n

pub all_below-at : (test : ℕ → Bool) (n k : ℕ) → all_below test n ≡ true → k < n → test k ≡ true
unfolding all_below
all_below-at test zero k h lt = absurd (omega arith)
all_below-at test (suc n) k h lt =
    let parts = and_parts (test n) (all_below test n) h in
    elim (cases_lt k n) [
      | inl below ↦ all_below-at test n k parts.1 below
      | inr top ↦ let e : k ≡ n = omega arith in rw e parts.0
    ]

abbrev glyph : ℕ → ℕ
glyph v = cond (ltb v 10) (48 + v) (87 + v)

glyph_at : (v : ℕ) → v < 16 → get_or lower_digits v 0 ≡ glyph v
unfolding all_below
glyph_at v lt = eqb-true _ _ (all_below-at (λ k. eqb (get_or lower_digits k 0) (glyph k)) 16 v refl lt)

lower_at : (v : ℕ) → v < 16 → is_lower (get_or lower_digits v 0) ≡ true
unfolding all_below
lower_at v lt = all_below-at (λ k. is_lower (get_or lower_digits k 0)) 16 v refl lt

pub digit_small : (v : ℕ) → v < 16 → get_or lower_digits v 0 < 256
unfolding all_below
digit_small v lt = ltb-true _ _ (all_below-at (λ k. ltb (get_or lower_digits k 0) 256) 16 v refl lt)

above_mark_at : (mark v : ℕ) → mark < 48 → v < 16 → get_or lower_digits v 0 ≢ mark
above_mark_at mark v low lt e = grind (arith, glyph_at v lt)

-- the digit of a value that was read, where no capital stands
pub digit_back : (c v : ℕ) → is_lower c ≡ true → hex_digit_value c ≡ Some v → (get_or lower_digits v 0 ≡ c) × (v < 16)
digit_back c v lower e =
    let parts : (v < 16) × (glyph v ≡ c) = grind arith in
    (glyph_at v parts.0 ∙ parts.1, parts.0)

-- ---- pairs of digits

digit_read : (c i : ℕ) (o : Option ℕ) (v : ℕ) → digit_or_error c i o ≡ Ok v → o ≡ Some v
digit_read c i (Some w) v h = ap Some (ok_same w v h)
  where
    ok_same : (x y : ℕ) → ◌≡◌ {A = Result ℕ FromHexError} (Ok x) (Ok y) → x ≡ y
    ok_same x y e = cc
digit_read c i None v h = absurd cc

hex_bind : {A B : Type 0} (r : Result A FromHexError) (f : A → Result B FromHexError) (y : B) → hex.◌>>=◌ r f ≡ Ok y → (x : A) × (r ≡ Ok x) ×
    (f x ≡ Ok y)
hex_bind (Ok x) f y h = (x, refl, h)
hex_bind (Err e) f y h = absurd cc

ok_bytes : (x y : List ℕ) → ◌≡◌ {A = Result (List ℕ) FromHexError} (Ok x) (Ok y) → x ≡ y
ok_bytes x y e = cc

ok_byte : (x y : ℕ) → ◌≡◌ {A = Result ℕ FromHexError} (Ok x) (Ok y) → x ≡ y
ok_byte x y e = cc

pairs_back : (i : ℕ) (text bytes : List ℕ) → list_all is_lower text ≡ true → decode_pairs i text ≡ Ok bytes → encode_lower bytes ≡ text
unfolding decode_pairs encode_with
pairs_back i [] bytes lower h = let e : [] ≡ bytes = ok_bytes [] bytes h in rw (← e) refl
pairs_back i (a ∷ []) bytes lower h = absurd cc
pairs_back i (a ∷ b ∷ rest) bytes lower h =
    let la = and_parts (is_lower a) (is_lower b && list_all is_lower rest) lower in
    let lb = and_parts (is_lower b) (list_all is_lower rest) la.1 in
    let p0 = hex_bind (pair_value a b i) _ bytes h in
    let p1 = hex_bind (value_at a i) _ p0.0 p0.1 in
    let p2 = hex_bind (value_at b (i + 1)) _ p0.0 p1.2 in
    let p3 = hex_bind (decode_pairs (i + 2) rest) _ bytes p0.2 in
    let high = digit_back a p1.0 la.0 (digit_read a i (hex_digit_value a) p1.0 p1.1) in
    let low = digit_back b p2.0 lb.0 (digit_read b (i + 1) (hex_digit_value b) p2.0 p2.1) in
    let whole : p0.0 ∷ p3.0 ≡ bytes = ok_bytes _ bytes p3.2 in
    let byte : p1.0 * 16 + p2.0 ≡ p0.0 = ok_byte _ p0.0 p2.2 in
    let up : p0.0 / 16 ≡ p1.0 = omega arith in
    let down : p0.0 % 16 ≡ p2.0 = omega arith in
    let rest_back = pairs_back (i + 2) rest p3.0 lb.1 p3.1 in
    rw (← whole, up, down, high.0, low.0, rest_back) refl

-- no capital stands in what `encode_lower` writes
pub encoded_lower : (bytes : List ℕ) → IsBytes bytes → list_all is_lower (encode_lower bytes) ≡ true
unfolding encode_with
encoded_lower [] fits = refl
encoded_lower (b ∷ bytes) fits =
    let small : b < 256 = fits 0 in
    and_from _ _ (lower_at (b / 16) (omega arith)) (and_from _ _ (lower_at (b % 16) (omega arith)) (encoded_lower bytes (λ k. fits (suc k))))

-- no mark below the digits stands there
encoded_lacks : (mark : ℕ) (bytes : List ℕ) → mark < 48 → IsBytes bytes → HasNo mark (encode_lower bytes)
unfolding encode_with
encoded_lacks mark [] low fits = tt
encoded_lacks mark (b ∷ bytes) low fits =
    let small : b < 256 = fits 0 in
    (above_mark_at mark (b / 16) low (omega arith), (above_mark_at mark (b % 16) low (omega arith), encoded_lacks mark bytes low (λ k. fits (suc k))))

pub bytes_lack : (mark : ℕ) (bytes : List ℕ) → mark < 45 → IsBytes bytes → HasNo mark (bytes_text bytes)
bytes_lack mark [] low fits = (λ e. absurd (omega arith), tt)
bytes_lack mark (b ∷ bytes) low fits = encoded_lacks mark (b ∷ bytes) (omega arith) fits

-- ---- BYTES

pub decoded_some : {E : Type 0} (r : Result (List ℕ) E) (bytes : List ℕ) → decoded r ≡ Some bytes → r ≡ Ok bytes
decoded_some (Ok x) bytes e = ap Ok (same_Some x bytes e)
decoded_some (Err d) bytes e = absurd cc

some_text : (b : ℕ) (text bytes : List ℕ) → encode_lower bytes ≡ b ∷ text → b ∷ text ≡ bytes_text bytes
unfolding encode_with
some_text b text [] h = absurd cc
some_text b text (x ∷ bytes) h = sym h

pairs_takes : (text bytes : List ℕ) → pairs_at text ≡ Some bytes → (text ≡ bytes_text bytes) × IsBytes bytes
unfolding pairs_at
pairs_takes [] bytes e = absurd cc
pairs_takes (b ∷ text) bytes e =
    let all = b ∷ text in
    elim (cases_Bool (list_all is_lower (b ∷ text))) [
      | inl lower ↦
          let found : decoded (decode_of (b ∷ text)) ≡ Some bytes = rw lower at e in
          let ok = decoded_some (decode_of (b ∷ text)) bytes found in
          let parts = decode_of-ok (b ∷ text) bytes ok in
          let back = pairs_back 0 (b ∷ text) bytes lower (sym (decode_of-even (b ∷ text) parts.0) ∙ ok) in
          (some_text b text bytes back, parts.3)
      | inr upper ↦ absurd (let none : None ≡ Some bytes = rw upper at e in cc)
    ]

pub any_bytes_takes : (text bytes : List ℕ) → any_bytes_at text ≡ Some bytes → (text ≡ bytes_text bytes) × IsBytes bytes
unfolding any_bytes_at
any_bytes_takes text bytes e =
    elim (cases_Bool (bytes_eq text (codes "-"))) [
      | inl dash ↦
          let found : Some [] ≡ Some bytes = rw dash at e in
          let none : [] ≡ bytes = same_Some [] bytes found in
          let is : text ≡ codes "-" = (bytes_eq-Decides text (codes "-")).0 dash in
          rw (← none) (is, λ i. omega arith)
      | inr other ↦
          let found : pairs_at text ≡ Some bytes = rw other at e in
          pairs_takes text bytes found
    ]

pub any_bytes_again : (bytes : List ℕ) → IsBytes bytes → any_bytes_at (bytes_text bytes) ≡ Some bytes
unfolding any_bytes_at pairs_at encode_with
any_bytes_again [] fits = refl
any_bytes_again (b ∷ bytes) fits =
    let no_dash : bytes_eq (encode_lower (b ∷ bytes)) (codes "-") ≡ false = and_right _ _ refl in
    rw (no_dash, encoded_lower (b ∷ bytes) fits, decode_of-encode_lower (b ∷ bytes) fits) refl

-- ---- BYTES of no more bytes than it may have

-- what has no more bytes than it may
abbrev pub limited : {A : Type 0} → ℕ → List ℕ → A → Result A Departure
limited most bytes x = cond (leb (length bytes) most) (Ok x) (Err TooLong)

pub limited_then : {A B : Type 0} (most : ℕ) (bytes : List ℕ) (x : A) (f : A → B) → (limited most bytes x >>= λ y. Ok (f y)) ≡ limited most bytes
    (f x)
limited_then most bytes x f = by_test (leb (length bytes) most)
  where
    by_test : (t : Bool) → (cond t (Ok x) (Err TooLong) >>= λ y. Ok (f y)) ≡ cond t (Ok (f x)) (Err TooLong)
    by_test true = refl
    by_test false = refl

pub bytes_again : (most : ℕ) (bytes : List ℕ) → IsBytes bytes → bytes_at most (bytes_text bytes) ≡ limited most bytes bytes
unfolding bytes_at
bytes_again most bytes fits = rw (any_bytes_again bytes fits) refl

-- BYTES that was read, and BYTES that was read but for its length
abbrev pub IsBytesOf : ℕ → List ℕ → List ℕ → Type 0
IsBytesOf most text bytes = (text ≡ bytes_text bytes) × IsBytes bytes × (length bytes ≤ most)

abbrev pub IsLongOf : ℕ → List ℕ → List ℕ → Type 0
IsLongOf most text bytes = (text ≡ bytes_text bytes) × IsBytes bytes × (most < length bytes)

pub bytes_shows : (most : ℕ) (text : List ℕ) → Shows (IsBytesOf most text) (IsLongOf most text) (bytes_at most text)
unfolding bytes_at
bytes_shows most text = shows_must (IsBytesOf most text) (IsLongOf most text) (any_bytes_at text) _ (λ bytes e.
    let p = any_bytes_takes text bytes e in
    cond_both (leb (length bytes) most) (Ok bytes) (Err TooLong) (Shows (IsBytesOf most text) (IsLongOf most text)) (λ t. (p.0, p.1, leb-true _ _ t))
    (λ t. (bytes, (p.0, p.1, leb-false _ _ t))))
