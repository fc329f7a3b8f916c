-- A reading that the rule allows is the reading: no bytes have two.
use Rattle.std.proofs.Common.{◌≡◌, ◌≢◌, ℕ, ◌+◌, ◌-◌, ◌<◌, Option, Some, None, List, length, take, drop, refl, sym, ap, ◌∙◌, inl, inr, arith}
use Rattle.std.specs.Prelude.{slice_range, nat_eq}
use Rattle.std.proofs.lemmas.Bool.{cond_both, ltb-false, lt-ltb, le-ltb, eqb-true, ne_eqb}
use Rattle.wire_base.specs.BlockCheck.{is_good}
use Rattle.wire_base.proofs.BlockCheckTests.{AreBytes-take, AreBytes-drop, good_from_test, test_from_good}
use Rattle.ddcmp_msg.specs.declared.nak_reason.NakReason.{NakReason}
use Rattle.ddcmp_msg.specs.declared.departure.Departure.{Departure}
use Rattle.ddcmp_msg.specs.declared.departure.Departure.TheVariants.{UnknownStart, Maintenance, WrongLength, UnknownType, WrongField}
use Rattle.ddcmp_msg.specs.Message.{MessageValue, Ack, Nak, Rep, Strt, Stack, IsBytes, reason_number, reason_of}
use Rattle.ddcmp_msg.specs.Spelling.{IsUnit}
use Rattle.ddcmp_msg.specs.Reading.{ReadingValue, Sound, HeaderBad, DataBad, Malformed, reading, count_of, type_of, subtype_of, unit_flags}
use Rattle.ddcmp_msg.specs.Reading.{address_of, data_reading, nak_reading, plain_reading, control_reading, checked_reading}
use Rattle.ddcmp_msg.specs.ReadingRule.{HasGoodHeader, HasGoodData, HasKnownType, Departs, IsReading, start_of}
use Rattle.ddcmp_msg.proofs.Fields.{low_back, reason-lt}
use Rattle.ddcmp_msg.proofs.Rule.{unit_is_sound, reason_is, reading_follows}

-- ---- the tests, from what they say

header_bad : (unit : List ℕ) → IsBytes unit → ¬ HasGoodHeader unit → reading unit ≡ HeaderBad
unfolding reading
header_bad unit fits bad =
    cond_both _ HeaderBad _ (λ r. r ≡ HeaderBad) (λ _. refl) (λ long.
    cond_both (is_good (take 8 unit)) _ HeaderBad (λ r. r ≡ HeaderBad)
    (λ checked. absurd (bad (record { long = ltb-false _ _ long; check = good_from_test (take 8 unit) (AreBytes-take 8 unit fits) checked })))
    (λ _. refl))

-- a unit with a good header is read by its first byte
by_start : (unit : List ℕ) → IsBytes unit → HasGoodHeader unit → reading unit ≡ checked_reading (start_of unit) unit
unfolding reading
by_start unit fits good = rw (le-ltb _ _ good.long, test_from_good (take 8 unit) (AreBytes-take 8 unit fits) good.check) refl

as_data : (unit : List ℕ) → IsBytes unit → HasGoodHeader unit → start_of unit ≡ 0x81 → reading unit ≡ data_reading unit
as_data unit fits good start = by_start unit fits good ∙ ap (λ (b : ℕ). checked_reading b unit) start

as_control : (unit : List ℕ) → IsBytes unit → HasGoodHeader unit → start_of unit ≡ 5 → reading unit ≡ control_reading unit
as_control unit fits good start = by_start unit fits good ∙ ap (λ (b : ℕ). checked_reading b unit) start

-- ---- data messages

part_fits : (unit : List ℕ) → IsBytes unit → IsBytes (slice_range unit 8 (count_of unit + 10))
part_fits unit fits = AreBytes-take (count_of unit + 10 - 8) (drop 8 unit) (AreBytes-drop 8 unit fits)

data_bad : (unit : List ℕ) → IsBytes unit → count_of unit ≢ 0 → ¬ HasGoodData unit → data_reading unit ≡ DataBad
data_bad unit fits some bad =
    cond_both (nat_eq (count_of unit) 0) (Malformed WrongLength) _ (λ r. r ≡ DataBad) (λ e. absurd (some (eqb-true _ _ e))) (λ _.
    cond_both _ DataBad _ (λ r. r ≡ DataBad) (λ _. refl) (λ long.
    cond_both (is_good (slice_range unit 8 (count_of unit + 10))) _ DataBad (λ r. r ≡ DataBad)
    (λ checked. absurd (bad (record { long = ltb-false _ _ long; check = good_from_test _ (part_fits unit fits) checked })))
    (λ _. refl)))

data_too_long : (unit : List ℕ) → IsBytes unit → HasGoodData unit → count_of unit + 10 < length unit → data_reading unit ≡ Malformed WrongLength
data_too_long unit fits part more =
    cond_both (nat_eq (count_of unit) 0) (Malformed WrongLength) _ (λ r. r ≡ Malformed WrongLength) (λ _. refl) (λ _.
    rw (le-ltb _ _ part.long, test_from_good _ (part_fits unit fits) part.check, lt-ltb _ _ more) refl)

data_field : (unit : List ℕ) → IsBytes unit → count_of unit ≢ 0 → HasGoodData unit → length unit ≡ count_of unit + 10 → address_of unit ≢ 1 →
    data_reading unit ≡ Malformed WrongField
data_field unit fits some part len address =
    rw (
      ne_eqb _ _ some,
      le-ltb _ _ part.long,
      test_from_good _ (part_fits unit fits) part.check,
      le-ltb (count_of unit + 10) (length unit)
          (omega arith),
      ne_eqb _ _ address,
    ) refl

-- ---- control messages

unknown_reason : (unit : List ℕ) (found : Option NakReason) → ¬ HasKnownType unit → type_of unit ≡ 2 → reason_of (subtype_of unit) ≡ found →
    nak_reading found unit ≡ Malformed UnknownType
unknown_reason unit None unknown t e = refl
unknown_reason unit (Some reason) unknown t e =
    let s = reason_is (subtype_of unit) reason e in
    absurd (unknown (Nak (unit_flags unit) reason 0, refl, sym t, low_back (reason_number reason) (unit_flags unit) (reason-lt reason) ∙ sym s))

-- a message of SUBTYPE 0 has not the TYPE of the unit
unknown_plain : (unit : List ℕ) → ¬ HasKnownType unit → subtype_of unit ≡ 0 → plain_reading (type_of unit) unit ≡ Malformed UnknownType
unknown_plain unit unknown s =
    let t = type_of unit in
    let f = unit_flags unit in
    let zero_below = low_back 0 f (omega arith) ∙ sym s in
    let P : ReadingValue → Type 0 = λ r. r ≡ Malformed UnknownType in
    cond_both (nat_eq t 1) _ _ P (λ e. absurd (unknown (Ack f 0, refl, sym (eqb-true t 1 e), zero_below))) (λ _.
    cond_both (nat_eq t 3) _ _ P (λ e. absurd (unknown (Rep f 0, refl, sym (eqb-true t 3 e), zero_below))) (λ _.
    cond_both (nat_eq t 6) _ _ P (λ e. absurd (unknown (Strt f, refl, sym (eqb-true t 6 e), zero_below))) (λ _.
    cond_both (nat_eq t 7) _ (Malformed UnknownType) P (λ e. absurd (unknown (Stack f, refl, sym (eqb-true t 7 e), zero_below))) (λ _. refl))))

unknown_type : (unit : List ℕ) → ¬ HasKnownType unit → length unit ≡ 8 → control_reading unit ≡ Malformed UnknownType
unknown_type unit unknown len =
    let t = type_of unit in
    let P : ReadingValue → Type 0 = λ r. r ≡ Malformed UnknownType in
    rw (le-ltb 8 (length unit) (omega arith))
    (cond_both (nat_eq t 2) _ _ P (λ e. unknown_reason unit (reason_of (subtype_of unit)) unknown (eqb-true t 2 e) refl) (λ _.
    cond_both (nat_eq (subtype_of unit) 0) _ (Malformed UnknownType) P (λ e. unknown_plain unit unknown (eqb-true _ _ e)) (λ _. refl)))

-- Of a control message with a known type that is no unit only the fields can be wrong: every other reading says otherwise.
control_field : (unit : List ℕ) (r : ReadingValue) → HasGoodHeader unit → start_of unit ≡ 5 → length unit ≡ 8 → HasKnownType unit →
    ((message : MessageValue) → ¬ IsUnit message unit) → IsReading r unit → r ≡ Malformed WrongField
control_field unit (Sound message) good start len known none h = absurd (none message h)
control_field unit HeaderBad good start len known none h = absurd (h good)
control_field unit DataBad good start len known none h = absurd (omega (arith, start, h.1))
control_field unit (Malformed UnknownStart) good start len known none h = absurd (h.1.1 start)
control_field unit (Malformed Maintenance) good start len known none h = absurd (omega (arith, start, h.1))
control_field unit (Malformed WrongLength) good start len known none h =
    elim h.1 [
      | inl a ↦ absurd (omega (arith, start, a.0))
      | inr b ↦ elim b
          [ inl a ↦ absurd (omega (arith, start, a.0)) | inr a ↦ absurd (omega (arith, len, a.1)) ]
    ]
control_field unit (Malformed UnknownType) good start len known none h = absurd (h.1.2 known)
control_field unit (Malformed WrongField) good start len known none h = refl

-- ---- any reading

departs : (departure : Departure) (unit : List ℕ) → IsBytes unit → HasGoodHeader unit → Departs departure unit → reading unit ≡ Malformed departure
departs UnknownStart unit fits good h = by_start unit fits good ∙ rw (ne_eqb _ _ h.0, ne_eqb _ _ h.1, ne_eqb _ _ h.2) refl
departs Maintenance unit fits good h = by_start unit fits good ∙ ap (λ (b : ℕ). checked_reading b unit) h
departs WrongLength unit fits good h =
    elim h [
      | inl a ↦ as_data unit fits good a.0 ∙ rw a.1 refl
      | inr b ↦ elim b [
        | inl a ↦ as_data unit fits good a.0 ∙ data_too_long unit fits a.1 a.2
        | inr a ↦ as_control unit fits good a.0 ∙ rw (lt-ltb _ _ a.1) refl
      ]
    ]
departs UnknownType unit fits good h = as_control unit fits good h.0 ∙ unknown_type unit h.2 h.1
departs WrongField unit fits good h =
    elim h [
      | inl a ↦ as_data unit fits good a.0 ∙ data_field unit fits a.1 a.2 a.3 a.4
      | inr a ↦ control_field unit (reading unit) good a.0 a.1 a.2 a.3 (reading_follows unit fits)
    ]

pub reading_is : (r : ReadingValue) (unit : List ℕ) → IsBytes unit → IsReading r unit → reading unit ≡ r
reading_is (Sound message) unit fits h = unit_is_sound message unit h
reading_is HeaderBad unit fits h = header_bad unit fits h
reading_is DataBad unit fits h = as_data unit fits h.0 h.1 ∙ data_bad unit fits h.2 h.3
reading_is (Malformed departure) unit fits h = departs departure unit fits h.0 h.1
