-- The grammar and the spelling: a unit of a message, made of what its bytes say, and the one spelling of it.
use Rattle.std.proofs.Common.{◌≡◌, ℕ, zero, suc, ◌+◌, ◌-◌, ◌/◌, ◌%◌, ◌≤◌, List, [], ◌∷◌, ◌++◌, length, get_or, take, drop, refl, sym, ap, subst, ◌∙◌}
use Rattle.std.proofs.Common.{arith}
use Rattle.std.specs.Prelude.{slice_range}
use Rattle.std.proofs.lemmas.List.{length-append, length-drop, length-take, take-append-drop, take_at, take-take, take_all}
use Rattle.wire_base.specs.BlockCheck.{HasGoodCheck}
use Rattle.wire_base.proofs.BlockCheckTests.{test_from_good}
use Rattle.ddcmp_msg.specs.Message.{MessageValue, Data, IsInRange, IsBytes}
use Rattle.ddcmp_msg.specs.Spelling.{header, control, numbered, with_check, rest_of, spelling, IsChecked, IsRest, IsUnit}
use Rattle.ddcmp_msg.specs.Reading.{count_of, type_of, subtype_of, unit_flags, receiver_of, sender_of, address_of}
use Rattle.ddcmp_msg.specs.ReadingRule.{HasGoodHeader, HasGoodData, start_of}
use Rattle.ddcmp_msg.proofs.Checked.{with_check-of_good}
use Rattle.ddcmp_msg.proofs.Fields.{byte_again}

-- ---- bytes from a list

two : (bytes : List ℕ) → length bytes ≡ 2 → bytes ≡ get_or bytes 0 0 ∷ get_or bytes 1 0 ∷ []
two [] h = absurd (omega arith)
two (a ∷ []) h = absurd (omega arith)
two (a ∷ b ∷ []) h = refl
two (a ∷ b ∷ c ∷ rest) h = absurd (omega arith)

-- bytes that end in a good check are their field and that check
pub IsChecked-from : (field bytes : List ℕ) → 2 ≤ length bytes → take (length bytes - 2) bytes ≡ field → HasGoodCheck bytes → IsChecked field bytes
IsChecked-from field bytes long e good =
    let n = length bytes - 2 in
    let last = two (drop n bytes) (omega (arith, length-drop n bytes)) in
    let whole : bytes ≡ field ++ (get_or (drop n bytes) 0 0 ∷ get_or (drop n bytes) 1 0 ∷ []) =
    sym (take-append-drop n bytes) ∙ ap (λ (t : List ℕ). t ++ drop n bytes) e ∙ ap (λ (t : List ℕ). field ++ t) last in
    (get_or (drop n bytes) 0 0, get_or (drop n bytes) 1 0, whole, good)

-- the first six bytes, one by one
pub six : (unit : List ℕ) → 6 ≤ length unit → take 6 unit ≡ get_or unit 0 0 ∷ get_or unit 1 0 ∷ get_or unit 2 0 ∷ get_or unit 3 0 ∷ get_or unit 4 0 ∷
    get_or unit 5 0 ∷ []
six [] h = absurd (omega arith)
six (a ∷ []) h = absurd (omega arith)
six (a ∷ b ∷ []) h = absurd (omega arith)
six (a ∷ b ∷ c ∷ []) h = absurd (omega arith)
six (a ∷ b ∷ c ∷ d ∷ []) h = absurd (omega arith)
six (a ∷ b ∷ c ∷ d ∷ e ∷ []) h = absurd (omega arith)
six (a ∷ b ∷ c ∷ d ∷ e ∷ f ∷ rest) h = refl

-- ---- a header that says what its bytes are

pub control_head : (unit : List ℕ) → IsBytes unit → 8 ≤ length unit → start_of unit ≡ 5 → address_of unit ≡ 1
    → take 6 unit ≡ control (type_of unit) (subtype_of unit) (unit_flags unit) (receiver_of unit) (sender_of unit)
control_head unit fits long start address = six unit (omega arith) ∙ rw (start, address, byte_again (get_or unit 2 0) (fits 2)) refl

pub data_head : (unit : List ℕ) → IsBytes unit → 8 ≤ length unit → start_of unit ≡ 0x81 → address_of unit ≡ 1
    → take 6 unit ≡ numbered (count_of unit) (unit_flags unit) (receiver_of unit) (sender_of unit)
data_head unit fits long start address =
    let low : count_of unit % 256 ≡ get_or unit 1 0 = omega (arith, fits 1) in
    let high : count_of unit / 256 ≡ get_or unit 2 0 % 64 = omega (arith, fits 1) in
    six unit (omega arith) ∙ rw (low, high, start, address, byte_again (get_or unit 2 0) (fits 2)) refl

-- ---- a unit from its parts

pub IsUnit-from : (message : MessageValue) (unit : List ℕ) → IsBytes unit → HasGoodHeader unit → IsInRange message → take 6 unit ≡ header message →
    IsRest message (drop 8 unit) → IsUnit message unit
IsUnit-from message unit fits good in_range head rest =
    let long = good.long in
    let len : length (take 8 unit) ≡ 8 = omega (arith, length-take 8 unit) in
    let front : take (length (take 8 unit) - 2) (take 8 unit) ≡ header message = rw len (take-take 6 8 unit (omega arith) ∙ head) in
    record {
      in_range = in_range;
      bytes = fits;
      head = take 8 unit;
      rest = drop 8 unit;
      whole = sym (take-append-drop 8 unit);
      head_is =
          IsChecked-from (header message) (take 8 unit) (omega arith) front good.check;
      rest_is = rest;
    }

-- of a data message: all of its bytes are there, and no more
pub data_rest : (unit : List ℕ) → HasGoodData unit → length unit ≡ count_of unit + 10 → IsChecked (slice_range unit 8 (8 + count_of unit))
    (drop 8 unit)
data_rest unit good len =
    let n = count_of unit in
    let k : length (drop 8 unit) ≡ n + 2 = omega (arith, length-drop 8 unit) in
    let all : take (n + 10 - 8) (drop 8 unit) ≡ drop 8 unit = take_all (n + 10 - 8) (drop 8 unit) (omega arith) in
    let same : length (drop 8 unit) - 2 ≡ 8 + n - 8 = omega arith in
    IsChecked-from (slice_range unit 8 (8 + n)) (drop 8 unit) (omega arith) (ap (λ (i : ℕ). take i (drop 8 unit)) same)
    (subst HasGoodCheck all good.check)

-- ---- one spelling

pub IsBytes-head : (xs ys : List ℕ) → IsBytes (xs ++ ys) → IsBytes xs
IsBytes-head [] ys h i = omega arith
IsBytes-head (x ∷ xs) ys h zero = h 0
IsBytes-head (x ∷ xs) ys h (suc i) = IsBytes-head xs ys (λ j. h (suc j)) i

pub IsBytes-rest : (xs ys : List ℕ) → IsBytes (xs ++ ys) → IsBytes ys
IsBytes-rest [] ys h = h
IsBytes-rest (x ∷ xs) ys h = IsBytes-rest xs ys (λ j. h (suc j))

checked_once : (field bytes : List ℕ) → IsBytes bytes → IsChecked field bytes → bytes ≡ with_check field
checked_once field bytes fits c =
    let good = test_from_good bytes fits c.3 in
    let len : length bytes - 2 ≡ length field = omega (arith, ap (λ (b : List ℕ). length b) c.2, length-append field (c.0 ∷ c.1 ∷ [])) in
    let front : take (length bytes - 2) bytes ≡ field = rw len (ap (take (length field)) c.2 ∙ take_at field (c.0 ∷ c.1 ∷ []) (length field) refl) in
    with_check-of_good bytes fits good ∙ ap with_check front

rest_once : (message : MessageValue) (rest : List ℕ) → IsBytes rest → IsRest message rest → rest ≡ rest_of message
rest_once (Data flags resp num body) rest fits h = checked_once body rest fits h
rest_once other rest fits h = h

pub spelled_once : (message : MessageValue) (unit : List ℕ) → IsUnit message unit → unit ≡ spelling message
unfolding spelling
spelled_once message unit u =
    let fits : IsBytes (u.head ++ u.rest) = subst IsBytes u.whole u.bytes in
    let head_fits : IsBytes u.head = IsBytes-head u.head u.rest fits in
    let rest_fits : IsBytes u.rest = IsBytes-rest u.head u.rest fits in
    u.whole ∙ ap (λ (h : List ℕ). h ++ u.rest) (checked_once (header message) u.head head_fits u.head_is)
    ∙ ap (λ (r : List ℕ). with_check (header message) ++ r) (rest_once message u.rest rest_fits u.rest_is)
