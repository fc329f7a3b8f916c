-- The reading of a unit follows the rule: along the tests of the reading, what each of them says.
use Rattle.std.proofs.Common.{◌≡◌, ◌≢◌, ℕ, ◌+◌, ◌-◌, ◌≤◌, true, false, cond, Option, Some, None, List, [], length, take, drop, refl, sym, ap, ◌∙◌}
use Rattle.std.proofs.Common.{inl, inr, arith}
use Rattle.std.specs.Prelude.{slice_range, nat_eq}
use Rattle.std.proofs.lemmas.Bool.{cond_both, both_ways, ltb-true, ltb-false, eqb-true, eqb-false}
use Rattle.std.proofs.lemmas.List.{length-take, length-drop, drop_all}
use Rattle.wire_base.specs.BlockCheck.{HasGoodCheck, is_good}
use Rattle.wire_base.proofs.BlockCheckTests.{AreBytes-take, AreBytes-drop, good_from_test, test_from_good}
use Rattle.ddcmp_msg.specs.declared.nak_reason.NakReason.{NakReason}
use Rattle.ddcmp_msg.specs.declared.nak_reason.NakReason.TheVariants.{HeaderCheck, DataCheck, RepResponse, NoBuffer, Overrun, MessageTooLong}
use Rattle.ddcmp_msg.specs.declared.nak_reason.NakReason.TheVariants.{HeaderFormat}
use Rattle.ddcmp_msg.specs.declared.departure.Departure.TheVariants.{UnknownStart, Maintenance, WrongLength, UnknownType, WrongField}
use Rattle.ddcmp_msg.specs.Message.{MessageValue, Data, Ack, Nak, Rep, Strt, Stack, IsInRange, IsBytes, reason_number, reason_of}
use Rattle.ddcmp_msg.specs.Spelling.{header, control, IsUnit, IsRest}
use Rattle.ddcmp_msg.specs.Reading.{ReadingValue, Sound, HeaderBad, DataBad, Malformed, reading, count_of, type_of, subtype_of, unit_flags}
use Rattle.ddcmp_msg.specs.Reading.{receiver_of, sender_of, address_of, if_zero, if_address, data_message, data_reading, nak_reading, plain_reading}
use Rattle.ddcmp_msg.specs.Reading.{control_reading, checked_reading}
use Rattle.ddcmp_msg.specs.ReadingRule.{HasGoodHeader, HasGoodData, HasKnownType, IsReading, start_of}
use Rattle.ddcmp_msg.proofs.Fields.{low_back, reason_back, reason-lt}
use Rattle.ddcmp_msg.proofs.ReadBack.{reading-spelling}
use Rattle.ddcmp_msg.proofs.Units.{control_head, data_head, IsUnit-from, data_rest, spelled_once}

pub unit_is_sound : (message : MessageValue) (unit : List ℕ) → IsUnit message unit → reading unit ≡ Sound message
unit_is_sound message unit u = ap reading (spelled_once message unit u) ∙ reading-spelling message u.in_range

-- where this is the reading, it follows the rule
abbrev Follows : List ℕ → ReadingValue → Type 0
Follows unit r = reading unit ≡ r → IsReading r unit

-- ---- what the tests say

good_part : (bytes : List ℕ) → IsBytes bytes → is_good bytes ≡ true → HasGoodCheck bytes
good_part bytes fits e = good_from_test bytes fits e

bad_part : (bytes : List ℕ) → IsBytes bytes → is_good bytes ≡ false → HasGoodCheck bytes → ⊥
bad_part bytes fits e good = both_ways (is_good bytes) e (test_from_good bytes fits good)

-- ---- control messages

-- a unit of eight bytes that starts as a control message, with a good header
record IsControl (unit : List ℕ) : Type 0 where
  fits : IsBytes unit
  good : HasGoodHeader unit
  start : start_of unit ≡ 5
  short : length unit ≡ 8

wrong_field : (unit : List ℕ) → IsControl unit → HasKnownType unit → Follows unit (Malformed WrongField)
wrong_field unit c known e =
    let none : (message : MessageValue) → IsUnit message unit → ⊥ = λ message u. no_unit message (unit_is_sound message unit u) in
    (c.good, inr (c.start, c.short, known, none))
  where
    no_unit : (message : MessageValue) → reading unit ≡ Sound message → ⊥
    no_unit message f = cc

then_zero : (unit : List ℕ) (byte : ℕ) (r : ReadingValue) → Follows unit (Malformed WrongField) → (byte ≡ 0 → Follows unit r) →
    Follows unit (if_zero byte r)
then_zero unit byte r wrong right = cond_both _ r (Malformed WrongField) (Follows unit) (λ e. right (eqb-true _ _ e)) (λ e. wrong)

then_address : (unit : List ℕ) (message : MessageValue) → Follows unit (Malformed WrongField) → (address_of unit ≡ 1 → IsUnit message unit) →
    Follows unit (if_address (address_of unit) message)
then_address unit message wrong right = cond_both _ (Sound message) (Malformed WrongField) (Follows unit) (λ e _. right (eqb-true _ _ e)) (λ e. wrong)

control_unit : (message : MessageValue) (unit : List ℕ) → IsControl unit → address_of unit ≡ 1 →
    control (type_of unit) (subtype_of unit) (unit_flags unit) (receiver_of unit) (sender_of unit) ≡ header message → IsInRange message →
    (drop 8 unit ≡ [] → IsRest message (drop 8 unit)) → IsUnit message unit
control_unit message unit c address head in_range rest =
    IsUnit-from message unit c.fits c.good in_range (control_head unit c.fits c.good.long c.start address ∙ head)
    (rest (drop_all 8 unit (omega (arith, c.short))))

follows_ack : (unit : List ℕ) → IsControl unit → type_of unit ≡ 1 → subtype_of unit ≡ 0 →
    Follows unit (if_zero (sender_of unit) (if_address (address_of unit) (Ack (unit_flags unit) (receiver_of unit))))
follows_ack unit c t s =
    let m = Ack (unit_flags unit) (receiver_of unit) in
    let wrong = wrong_field unit c (m, refl, sym t, low_back 0 (unit_flags unit) (omega arith) ∙ sym s) in
    then_zero unit (sender_of unit) _ wrong (λ z. then_address unit m wrong (λ a. control_unit m unit c a (rw (t, s, z) refl) tt (λ e. e)))

follows_nak : (unit : List ℕ) (reason : NakReason) → IsControl unit → type_of unit ≡ 2 → subtype_of unit ≡ reason_number reason →
    Follows unit (if_zero (sender_of unit) (if_address (address_of unit) (Nak (unit_flags unit) reason (receiver_of unit))))
follows_nak unit reason c t s =
    let m = Nak (unit_flags unit) reason (receiver_of unit) in
    let wrong = wrong_field unit c (m, refl, sym t, low_back (reason_number reason) (unit_flags unit) (reason-lt reason) ∙ sym s) in
    then_zero unit (sender_of unit) _ wrong (λ z. then_address unit m wrong (λ a. control_unit m unit c a (rw (t, s, z) refl) tt (λ e. e)))

follows_rep : (unit : List ℕ) → IsControl unit → type_of unit ≡ 3 → subtype_of unit ≡ 0 →
    Follows unit (if_zero (receiver_of unit) (if_address (address_of unit) (Rep (unit_flags unit) (sender_of unit))))
follows_rep unit c t s =
    let m = Rep (unit_flags unit) (sender_of unit) in
    let wrong = wrong_field unit c (m, refl, sym t, low_back 0 (unit_flags unit) (omega arith) ∙ sym s) in
    then_zero unit (receiver_of unit) _ wrong (λ z. then_address unit m wrong (λ a. control_unit m unit c a (rw (t, s, z) refl) tt (λ e. e)))

follows_strt : (unit : List ℕ) → IsControl unit → type_of unit ≡ 6 → subtype_of unit ≡ 0 →
    Follows unit (if_zero (receiver_of unit) (if_zero (sender_of unit) (if_address (address_of unit) (Strt (unit_flags unit)))))
follows_strt unit c t s =
    let m = Strt (unit_flags unit) in
    let wrong = wrong_field unit c (m, refl, sym t, low_back 0 (unit_flags unit) (omega arith) ∙ sym s) in
    then_zero unit (receiver_of unit) _ wrong
    (λ y. then_zero unit (sender_of unit) _ wrong
    (λ z. then_address unit m wrong (λ a. control_unit m unit c a (rw (t, s, y, z) refl) tt (λ e. e))))

follows_stack : (unit : List ℕ) → IsControl unit → type_of unit ≡ 7 → subtype_of unit ≡ 0 →
    Follows unit (if_zero (receiver_of unit) (if_zero (sender_of unit) (if_address (address_of unit) (Stack (unit_flags unit)))))
follows_stack unit c t s =
    let m = Stack (unit_flags unit) in
    let wrong = wrong_field unit c (m, refl, sym t, low_back 0 (unit_flags unit) (omega arith) ∙ sym s) in
    then_zero unit (receiver_of unit) _ wrong
    (λ y. then_zero unit (sender_of unit) _ wrong
    (λ z. then_address unit m wrong (λ a. control_unit m unit c a (rw (t, s, y, z) refl) tt (λ e. e))))

-- ---- TYPE and SUBTYPE

some_is : (a b : NakReason) → Some a ≡ Some b → a ≡ b
some_is a b e = cc

-- a reason that was found has the number
pub reason_is : (n : ℕ) (reason : NakReason) → reason_of n ≡ Some reason → n ≡ reason_number reason
reason_is n reason =
    at 1 HeaderCheck _ refl
    (at 2 DataCheck _ refl (at 3 RepResponse _ refl
    (at 8 NoBuffer _ refl (at 9 Overrun _ refl (at 16 MessageTooLong _ refl (at 17 HeaderFormat _ refl none))))))
  where
    at : (k : ℕ) (found : NakReason) (rest : Option NakReason) → k ≡ reason_number found → (rest ≡ Some reason → n ≡ reason_number reason) →
        cond (nat_eq n k) (Some found) rest ≡ Some reason → n ≡ reason_number reason
    at k found rest same others = cond_both (nat_eq n k) (Some found) rest (λ o. o ≡ Some reason → n ≡ reason_number reason)
        (λ e f. eqb-true n k e ∙ same ∙ ap reason_number (some_is found reason f)) (λ _. others)

    none : None ≡ Some reason → n ≡ reason_number reason
    none e = absurd cc

no_reason : (n : ℕ) (reason : NakReason) → reason_of n ≡ None → n ≡ reason_number reason → ⊥
no_reason n reason e f = let g : reason_of n ≡ Some reason = ap reason_of f ∙ reason_back reason in cc

-- no message has the TYPE and SUBTYPE of the unit, if these rows of the table do not
record IsUnknown (unit : List ℕ) : Type 0 where
  plain : subtype_of unit ≡ 0 → (type_of unit ≢ 1) × (type_of unit ≢ 3) × (type_of unit ≢ 6) × (type_of unit ≢ 7)
  nak : type_of unit ≡ 2 → (reason : NakReason) → subtype_of unit ≡ reason_number reason → ⊥

not_known : (unit : List ℕ) → IsUnknown unit → (message : MessageValue) → start_of (header message) ≡ 5 → type_of (header message) ≡ type_of unit →
    subtype_of (header message) ≡ subtype_of unit → ⊥
not_known unit h (Data flags resp num body) start t s = omega arith
not_known unit h (Ack flags resp) start t s = (h.plain (sym s ∙ low_back 0 flags (omega arith))).0 (sym t)
not_known unit h (Nak flags reason resp) start t s = h.nak (sym t) reason (sym s ∙ low_back (reason_number reason) flags (reason-lt reason))
not_known unit h (Rep flags num) start t s = (h.plain (sym s ∙ low_back 0 flags (omega arith))).1 (sym t)
not_known unit h (Strt flags) start t s = (h.plain (sym s ∙ low_back 0 flags (omega arith))).2 (sym t)
not_known unit h (Stack flags) start t s = (h.plain (sym s ∙ low_back 0 flags (omega arith))).3 (sym t)

unknown_type : (unit : List ℕ) → IsControl unit → IsUnknown unit → Follows unit (Malformed UnknownType)
unknown_type unit c h e = (c.good, (c.start, c.short, λ known. not_known unit h known.0 known.1 known.2 known.3))

follows_reason : (unit : List ℕ) (found : Option NakReason) → IsControl unit → type_of unit ≡ 2 → reason_of (subtype_of unit) ≡ found →
    Follows unit (nak_reading found unit)
follows_reason unit None c t e =
    unknown_type unit c (record {
      plain = λ _. (λ f. omega arith, λ f. omega arith, λ f. omega arith, λ f. omega arith);
      nak =
          λ _ reason f. no_reason (subtype_of unit) reason e f;
    })
follows_reason unit (Some reason) c t e = follows_nak unit reason c t (reason_is (subtype_of unit) reason e)

follows_plain : (unit : List ℕ) → IsControl unit → subtype_of unit ≡ 0 → type_of unit ≢ 2 → Follows unit (plain_reading (type_of unit) unit)
follows_plain unit c s not_nak =
    let t = type_of unit in
    cond_both (nat_eq t 1) _ _ (Follows unit) (λ e. follows_ack unit c (eqb-true t 1 e) s) (λ n1.
    cond_both (nat_eq t 3) _ _ (Follows unit) (λ e. follows_rep unit c (eqb-true t 3 e) s) (λ n3.
    cond_both (nat_eq t 6) _ _ (Follows unit) (λ e. follows_strt unit c (eqb-true t 6 e) s) (λ n6.
    cond_both (nat_eq t 7) _ (Malformed UnknownType) (Follows unit) (λ e. follows_stack unit c (eqb-true t 7 e) s) (λ n7.
    unknown_type unit c (record
    { plain = λ _. (eqb-false t 1 n1, eqb-false t 3 n3, eqb-false t 6 n6, eqb-false t 7 n7); nak = λ e _ _. not_nak e })))))

follows_control : (unit : List ℕ) → IsBytes unit → HasGoodHeader unit → start_of unit ≡ 5 → Follows unit (control_reading unit)
follows_control unit fits good start =
    let t = type_of unit in
    let s = subtype_of unit in
    cond_both _ (Malformed WrongLength) _ (Follows unit) (λ long _. (good, inr (inr (start, ltb-true _ _ long)))) (λ short.
    let c : IsControl unit = record { fits = fits; good = good; start = start; short = omega (arith, ltb-false 8 (length unit) short, good.long) } in
    cond_both (nat_eq t 2) _ _ (Follows unit) (λ e. follows_reason unit (reason_of s) c (eqb-true t 2 e) refl) (λ n2.
    cond_both (nat_eq s 0) _ (Malformed UnknownType) (Follows unit) (λ e. follows_plain unit c (eqb-true s 0 e) (eqb-false t 2 n2)) (λ n0.
    unknown_type unit c (record { plain = λ e. absurd (eqb-false s 0 n0 e); nak = λ e _ _. eqb-false t 2 n2 e }))))

-- ---- data messages

data_unit : (unit : List ℕ) → IsBytes unit → HasGoodHeader unit → start_of unit ≡ 0x81 → count_of unit ≢ 0 → HasGoodData unit →
    length unit ≡ count_of unit + 10 → address_of unit ≡ 1 → IsUnit (data_message unit) unit
data_unit unit fits good start some part len address =
    let n = count_of unit in
    let body = slice_range unit 8 (8 + n) in
    let size : length body ≡ n = omega (arith, length-take (8 + n - 8) (drop 8 unit), length-drop 8 unit) in
    let most : n ≤ 16383 = omega (arith, fits 1) in
    let least : 1 ≤ n = omega arith in
    IsUnit-from (data_message unit) unit fits good (omega arith, omega arith) (data_head unit fits good.long start address ∙ rw size refl)
    (data_rest unit part len)

follows_data : (unit : List ℕ) → IsBytes unit → HasGoodHeader unit → start_of unit ≡ 0x81 → Follows unit (data_reading unit)
follows_data unit fits good start =
    let n = count_of unit in
    let part_fits : IsBytes (slice_range unit 8 (n + 10)) = AreBytes-take (n + 10 - 8) (drop 8 unit) (AreBytes-drop 8 unit fits) in
    cond_both (nat_eq n 0) (Malformed WrongLength) _ (Follows unit) (λ e _. (good, inl (start, eqb-true n 0 e))) (λ some.
    cond_both _ DataBad _ (Follows unit)
    (λ short _. (good, start, eqb-false n 0 some, λ (part : HasGoodData unit). absurd (omega (arith, ltb-true _ _ short, part.long)))) (λ long.
    cond_both (is_good (slice_range unit 8 (n + 10))) _ DataBad (Follows unit) (λ checked.
    let part : HasGoodData unit = record { long = ltb-false _ _ long; check = good_part _ part_fits checked } in
    cond_both _ (Malformed WrongLength) _ (Follows unit) (λ more _. (good, inr (inl (start, part, ltb-true _ _ more)))) (λ whole.
    let len : length unit ≡ n + 10 = omega (arith, ltb-false _ _ whole, part.long) in
    cond_both _ (Sound (data_message unit)) (Malformed WrongField) (Follows unit)
    (λ address _. data_unit unit fits good start (eqb-false n 0 some) part len (eqb-true _ _ address))
    (λ address _. (good, inl (start, eqb-false n 0 some, part, len, eqb-false _ _ address)))))
    (λ checked _. (good, start, eqb-false n 0 some, λ (part : HasGoodData unit). bad_part _ part_fits checked part.check))))

-- ---- any unit

follows_checked : (unit : List ℕ) → IsBytes unit → HasGoodHeader unit → Follows unit (checked_reading (start_of unit) unit)
follows_checked unit fits good =
    let b = start_of unit in
    cond_both (nat_eq b 0x81) _ _ (Follows unit) (λ e. follows_data unit fits good (eqb-true b 0x81 e)) (λ n1.
    cond_both (nat_eq b 5) _ _ (Follows unit) (λ e. follows_control unit fits good (eqb-true b 5 e)) (λ n2.
    cond_both (nat_eq b 0x90) (Malformed Maintenance) (Malformed UnknownStart) (Follows unit) (λ e _. (good, eqb-true b 0x90 e))
    (λ n3 _. (good, (eqb-false b 0x81 n1, eqb-false b 5 n2, eqb-false b 0x90 n3)))))

follows : (unit : List ℕ) → IsBytes unit → Follows unit (reading unit)
unfolding reading
follows unit fits =
    cond_both _ HeaderBad _ (Follows unit) (λ short _. λ (good : HasGoodHeader unit). absurd (omega (arith, ltb-true _ _ short, good.long))) (λ long.
    cond_both (is_good (take 8 unit)) _ HeaderBad (Follows unit)
    (λ checked. follows_checked unit fits (record { long = ltb-false _ _ long; check = good_part _ (AreBytes-take 8 unit fits) checked }))
    (λ checked _. λ (good : HasGoodHeader unit). bad_part _ (AreBytes-take 8 unit fits) checked good.check))

pub reading_follows : (unit : List ℕ) → IsBytes unit → IsReading (reading unit) unit
reading_follows unit fits = follows unit fits refl
