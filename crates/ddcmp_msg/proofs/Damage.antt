-- One byte changed in the unit of a message: the check of the header or that of the data shows it.
use Rattle.std.proofs.Common.{◌≡◌, ◌≢◌, ℕ, zero, suc, ◌+◌, ◌-◌, ◌/◌, ◌<◌, ◌≤◌, ◌⊎◌, List, [], ◌∷◌, ◌++◌, length, get_or, take, drop, refl, sym, ap}
use Rattle.std.proofs.Common.{subst, ◌∙◌, inl, inr, arith}
use Rattle.std.specs.Prelude.{slice_range}
use Rattle.std.proofs.lemmas.Bool.{cases_lt}
use Rattle.std.proofs.lemmas.List.{length-append, length-drop, take-append-le, drop-append-le, get_or_append_left, get_or_at, take_at, drop_at}
use Rattle.std.proofs.lemmas.List.{take_all}
use Rattle.std.proofs.Math.Seq.{take-append-add}
use Rattle.wire_base.specs.BlockCheck.{HasGoodCheck}
use Rattle.wire_base.proofs.BlockCheck.{one_byte_shows}
use Rattle.wire_base.proofs.BlockCheckTests.{AreBytes-take, AreBytes-drop}
use Rattle.ddcmp_msg.specs.declared.flags.Flags.{Flags}
use Rattle.ddcmp_msg.specs.Message.{MessageValue, Data, IsBytes}
use Rattle.ddcmp_msg.specs.Spelling.{header, IsUnit}
use Rattle.ddcmp_msg.specs.Reading.{HeaderBad, DataBad, reading, count_of}
use Rattle.ddcmp_msg.specs.ReadingRule.{HasGoodHeader, HasGoodData, IsReading, start_of}
use Rattle.ddcmp_msg.proofs.Fields.{low_back}
use Rattle.ddcmp_msg.proofs.Units.{IsBytes-head}
use Rattle.ddcmp_msg.proofs.OneReading.{reading_is}

-- ---- a list with one place changed

-- the part through a place holds the change there
take_over : (before : List ℕ) (x : ℕ) (after : List ℕ) (n k : ℕ) → n ≡ length before + suc k → take n (before ++ x ∷ after) ≡ before ++ x ∷
    take k after
take_over before x after n k e = rw e (take-append-add before (x ∷ after) (suc k))

IsBytes-changed : (before : List ℕ) (x y : ℕ) (after : List ℕ) → y < 256 → IsBytes (before ++ x ∷ after) → IsBytes (before ++ y ∷ after)
IsBytes-changed [] x y after h fits zero = h
IsBytes-changed [] x y after h fits (suc i) = fits (suc i)
IsBytes-changed (b ∷ before) x y after h fits zero = fits 0
IsBytes-changed (b ∷ before) x y after h fits (suc i) = IsBytes-changed before x y after h (λ j. fits (suc j)) i

-- bytes that are good are not good with one of them changed
shows : (before : List ℕ) (x y : ℕ) (after : List ℕ) → y < 256 → y ≢ x → IsBytes (before ++ x ∷ after) → HasGoodCheck (before ++ x ∷ after) →
    HasGoodCheck (before ++ y ∷ after) → ⊥
shows before x y after h ne fits good bad =
    let sent : x < 256 = subst (λ (b : ℕ). b < 256) (get_or_at before x after 0 (length before) refl) (fits (length before)) in
    ne (one_byte_shows before after y x (IsBytes-head before (x ∷ after) fits) h sent bad.copies good.copies)

-- ---- the parts of a unit

length-header : (message : MessageValue) → length (header message) ≡ 6
length-header (Data flags resp num body) = refl
length-header m = refl

length-head : (message : MessageValue) (unit : List ℕ) (u : IsUnit message unit) → length u.head ≡ 8
length-head message unit u = ap length u.head_is.2 ∙ length-append (header message) (u.head_is.0 ∷ u.head_is.1 ∷ []) ∙
    ap (λ (n : ℕ). n + 2) (length-header message)

first_eight : (message : MessageValue) (unit : List ℕ) (u : IsUnit message unit) → HasGoodCheck (take 8 unit)
first_eight message unit u = subst HasGoodCheck (sym (take_at u.head u.rest 8 (length-head message unit u)) ∙ ap (take 8) (sym u.whole)) u.head_is.3

-- ---- the change in the header

header_shows : (message : MessageValue) (before : List ℕ) (x y : ℕ) (after : List ℕ) → IsUnit message (before ++ x ∷ after) → y < 256 → y ≢ x →
    length before < 8 → HasGoodHeader (before ++ y ∷ after) → ⊥
header_shows message before x y after u h ne place good =
    let k = 7 - length before in
    let e : 8 ≡ length before + suc k = omega arith in
    let sent : HasGoodCheck (before ++ x ∷ take k after) = subst HasGoodCheck (take_over before x after 8 k e) (first_eight message _ u) in
    let received : HasGoodCheck (before ++ y ∷ take k after) = subst HasGoodCheck (take_over before y after 8 k e) good.check in
    let fits : IsBytes (before ++ x ∷ take k after) =
    subst IsBytes (take_over before x after 8 k e) (AreBytes-take 8 (before ++ x ∷ after) u.bytes) in
    shows before x y (take k after) h ne fits sent received

-- ---- the change behind the header

-- the header stands as it was
same_front : (before : List ℕ) (x y : ℕ) (after : List ℕ) → 8 ≤ length before → take 8 (before ++ x ∷ after) ≡ take 8 (before ++ y ∷ after)
same_front before x y after far = take-append-le 8 before (x ∷ after) far ∙ sym (take-append-le 8 before (y ∷ after) far)

same_byte : (before : List ℕ) (x y : ℕ) (after : List ℕ) (i : ℕ) → i < length before → get_or (before ++ x ∷ after) i 0 ≡ get_or (before ++ y ∷ after)
    i 0
same_byte before x y after i lt = get_or_append_left before (x ∷ after) 0 i lt ∙ sym (get_or_append_left before (y ∷ after) 0 i lt)

-- a control message ends with its header
control_ends : (message : MessageValue) (unit : List ℕ) (u : IsUnit message unit) → u.rest ≡ [] → length unit ≡ 8
control_ends message unit u e = ap length u.whole ∙ length-append u.head u.rest ∙ rw e (omega (arith, length-head message unit u))

-- of a data message: its first byte, COUNT, its length and its data
record IsData (unit : List ℕ) : Type 0 where
  start : start_of unit ≡ 0x81
  some : count_of unit ≢ 0
  len : length unit ≡ count_of unit + 10
  part : HasGoodCheck (drop 8 unit)

data_parts : (flags : Flags) (resp num : ℕ) (body unit : List ℕ) → IsUnit (Data flags resp num body) unit → IsData unit
data_parts flags resp num body unit u =
    let n = length body in
    let message = Data flags resp num body in
    let head_len = length-head message unit u in
    let cells : unit ≡ header message ++ (u.head_is.0 ∷ u.head_is.1 ∷ u.rest) = u.whole ∙ ap (λ (h : List ℕ). h ++ u.rest) u.head_is.2 in
    let counts : count_of unit ≡ n = ap count_of cells ∙ omega (arith, low_back (n / 256) flags (omega (arith, u.in_range.1))) in
    let rest_len : length u.rest ≡ n + 2 = ap length u.rest_is.2 ∙ length-append body (u.rest_is.0 ∷ u.rest_is.1 ∷ []) in
    let len : length unit ≡ n + 10 = ap length u.whole ∙ length-append u.head u.rest ∙ omega arith in
    let part : HasGoodCheck (drop 8 unit) = subst HasGoodCheck (sym (drop_at u.head u.rest 8 head_len) ∙ ap (drop 8) (sym u.whole)) u.rest_is.3 in
    record { start = ap start_of cells; some = λ e. omega (arith, u.in_range.0); len = omega arith; part = part }

data_shows : (before : List ℕ) (x y : ℕ) (after : List ℕ) → IsBytes (before ++ x ∷ after) → IsData (before ++ x ∷ after) →
    count_of (before ++ y ∷ after) ≡ count_of (before ++ x ∷ after) → 8 ≤ length before → y < 256 → y ≢ x → HasGoodData (before ++ y ∷ after) → ⊥
data_shows before x y after fits sent counts far h ne got =
    let n = count_of (before ++ x ∷ after) in
    let rest : (b : ℕ) → drop 8 (before ++ b ∷ after) ≡ drop 8 before ++ b ∷ after = λ b. drop-append-le 8 before (b ∷ after) far in
    let len : length (drop 8 (before ++ y ∷ after)) ≤ n + 10 - 8 =
    omega (arith, sent.len, length-drop 8 (before ++ y ∷ after), length-append before (y ∷ after), length-append before (x ∷ after)) in
    let whole : slice_range (before ++ y ∷ after) 8 (count_of (before ++ y ∷ after) + 10) ≡ drop 8 before ++ y ∷ after =
    rw counts (take_all (n + 10 - 8) (drop 8 (before ++ y ∷ after)) len ∙ rest y) in
    let rest_fits : IsBytes (drop 8 before ++ x ∷ after) = subst IsBytes (rest x) (AreBytes-drop 8 (before ++ x ∷ after) fits) in
    shows (drop 8 before) x y after h ne rest_fits (subst HasGoodCheck (rest x) sent.part) (subst HasGoodCheck whole got.check)

is_data : (message : MessageValue) (unit : List ℕ) → IsUnit message unit → 8 < length unit → IsData unit
is_data (Data flags resp num body) unit u long = data_parts flags resp num body unit u
is_data other unit u long = absurd (omega (arith, control_ends _ unit u u.rest_is))

-- ---- any change of one byte

pub damage_shows : (message : MessageValue) (before : List ℕ) (x y : ℕ) (after : List ℕ) → IsUnit message (before ++ x ∷ after) → y < 256 → y ≢ x
    → (reading (before ++ y ∷ after) ≡ HeaderBad) ⊎ (reading (before ++ y ∷ after) ≡ DataBad)
damage_shows message before x y after u h ne =
    let fits = IsBytes-changed before x y after h u.bytes in
    elim (cases_lt (length before) 8) [
      | inl near ↦ inl (reading_is HeaderBad (before ++ y ∷ after) fits (header_shows message before x y after u h ne near))
      | inr far ↦ inr (reading_is DataBad (before ++ y ∷ after) fits (behind message before x y after u h ne far))
    ]
  where
    behind : (message : MessageValue) (before : List ℕ) (x y : ℕ) (after : List ℕ) → IsUnit message (before ++ x ∷ after) → y < 256 → y ≢ x →
        8 ≤ length before → IsReading DataBad (before ++ y ∷ after)
    behind message before x y after u h ne far =
        let sent = is_data message (before ++ x ∷ after) u (omega (arith, length-append before (x ∷ after))) in
        let at : (i : ℕ) → i < length before → get_or (before ++ y ∷ after) i 0 ≡ get_or (before ++ x ∷ after) i 0 =
        λ i. same_byte before y x after i in
        let counts : count_of (before ++ y ∷ after) ≡ count_of (before ++ x ∷ after) = rw (at 1 (omega arith), at 2 (omega arith)) refl in
        let front : HasGoodCheck (take 8 (before ++ y ∷ after)) = subst HasGoodCheck (same_front before x y after far) (first_eight message _ u) in (
          record { long = omega (arith, length-append before (y ∷ after)); check = front },
          at 0 (omega arith) ∙ sent.start,
          λ e. sent.some (sym counts ∙ e),
          data_shows before x y after u.bytes sent counts far h ne,
        )
