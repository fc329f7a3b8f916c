-- A unit that is known to be sound: what its fields alone tell.
use Rattle.std.proofs.Common.{◌≡◌, ◌≢◌, ℕ, ◌+◌, ◌≤◌, List, length, take, refl, sym, subst, ◌∙◌, arith}
use Rattle.std.specs.Prelude.{slice_index, slice_range, nat_eq, nat_lt}
use Rattle.std.proofs.lemmas.Bool.{cond_both, ltb-false, eqb-true, eqb-false}
use Rattle.wire_base.specs.BlockCheck.{is_good}
use Rattle.ddcmp_msg.specs.declared.departure.Departure.TheVariants.{UnknownStart, Maintenance, WrongLength, UnknownType, WrongField}
use Rattle.ddcmp_msg.specs.declared.reading.Reading.{Reading}
use Rattle.ddcmp_msg.specs.declared.reading.Reading.TheVariants as variants
use Rattle.ddcmp_msg.specs.declared.message.Message.{Message}
use Rattle.ddcmp_msg.specs.Reading.{ReadingValue, reading_view, Sound, HeaderBad, DataBad, Malformed, reading, count_of, data_message, data_reading}
use Rattle.ddcmp_msg.specs.Reading.{control_reading, checked_reading, type_of, subtype_of, unit_flags, receiver_of, sender_of, address_of, IsSound}
use Rattle.ddcmp_msg.specs.Message.{Ack}
use Rattle.ddcmp_msg.specs.Spelling.{ADDRESS}

-- a fact of every sound reading of the unit, that holds once it is told by its first byte
by_start : (unit : List ℕ) (P : ReadingValue → Type 0) →
    (8 ≤ length unit → IsSound (checked_reading (slice_index unit 0) unit) → P (checked_reading (slice_index unit 0) unit)) → IsSound (reading unit) →
    P (reading unit)
unfolding reading
by_start unit P rest =
    cond_both (nat_lt (length unit) 8) HeaderBad _ (λ r. IsSound r → P r) (λ _ s. absurd s) (λ long.
    cond_both (is_good (take 8 unit)) _ HeaderBad (λ r. IsSound r → P r) (λ _. rest (ltb-false (length unit) 8 long)) (λ _ s. absurd s))

pub long_unit : (unit : List ℕ) → IsSound (reading unit) → 8 ≤ length unit
long_unit unit = by_start unit (λ _. 8 ≤ length unit) (λ long _. long)

pub record IsData (unit : List ℕ) (r : ReadingValue) : Type 0 where
  pub whole : length unit ≡ count_of unit + 10
  pub message : r ≡ Sound (data_message unit)

in_data : (unit : List ℕ) → IsSound (data_reading unit) → IsData unit (data_reading unit)
in_data unit =
    let P : ReadingValue → Type 0 = λ r. IsSound r → IsData unit r in
    let n = count_of unit in
    cond_both (nat_eq n 0) (Malformed WrongLength) _ P (λ _ s. absurd s) (λ _.
    cond_both (nat_lt (length unit) (n + 10)) DataBad _ P (λ _ s. absurd s) (λ long.
    cond_both (is_good (slice_range unit 8 (n + 10))) _ DataBad P (λ _.
    cond_both (nat_lt (n + 10) (length unit)) (Malformed WrongLength) _ P (λ _ s. absurd s) (λ short.
    cond_both _ (Sound (data_message unit)) (Malformed WrongField) P
    (λ _ _. record { whole = omega (arith, ltb-false (length unit) (n + 10) long, ltb-false (n + 10) (length unit) short); message = refl })
    (λ _ s. absurd s)))
    (λ _ s. absurd s)))

pub data_unit : (unit : List ℕ) → IsSound (reading unit) → slice_index unit 0 ≡ 129 → IsData unit (reading unit)
data_unit unit sound start =
    by_start unit (IsData unit)
    (λ _. subst (λ (b : ℕ). IsSound (checked_reading b unit) → IsData unit (checked_reading b unit)) (sym start) (in_data unit)) sound

pub control_unit : (unit : List ℕ) → IsSound (reading unit) → slice_index unit 0 ≢ 129 → reading unit ≡ control_reading unit
control_unit unit sound other =
    by_start unit (λ r. r ≡ control_reading unit) (λ _. in_control) sound
  where
    in_control : IsSound (checked_reading (slice_index unit 0) unit) → checked_reading (slice_index unit 0) unit ≡ control_reading unit
    in_control =
        let P : ReadingValue → Type 0 = λ r. IsSound r → r ≡ control_reading unit in
        let b = slice_index unit 0 in
        cond_both (nat_eq b 129) _ _ P (λ e. absurd (other (eqb-true b 129 e))) (λ _.
        cond_both (nat_eq b 5) _ _ P (λ _ _. refl) (λ _.
        cond_both (nat_eq b 144) (Malformed Maintenance) (Malformed UnknownStart) P (λ _ s. absurd s) (λ _ s. absurd s)))

-- one of TYPE 1 is the ACK of its fields
pub ack_unit : (unit : List ℕ) → IsSound (reading unit) → slice_index unit 0 ≢ 129 → type_of unit ≡ 1 →
    reading unit ≡ Sound (Ack (unit_flags unit) (receiver_of unit))
ack_unit unit sound other is_ack =
    let same = control_unit unit sound other in
    same ∙ in_ack (subst IsSound same sound)
  where
    in_ack : IsSound (control_reading unit) → control_reading unit ≡ Sound (Ack (unit_flags unit) (receiver_of unit))
    in_ack =
        let ack = Sound (Ack (unit_flags unit) (receiver_of unit)) in
        let P : ReadingValue → Type 0 = λ r. IsSound r → r ≡ ack in
        let t = type_of unit in
        cond_both (nat_lt 8 (length unit)) (Malformed WrongLength) _ P (λ _ s. absurd s) (λ _.
        cond_both (nat_eq t 2) _ _ P (λ e. let no : ⊥ = omega (arith, eqb-true t 2 e, is_ack) in absurd no) (λ _.
        cond_both (nat_eq (subtype_of unit) 0) _ (Malformed UnknownType) P (λ _.
        cond_both (nat_eq t 1) _ _ P (λ _.
        cond_both (nat_eq (sender_of unit) 0) _ (Malformed WrongField) P (λ _.
        cond_both (nat_eq (address_of unit) ADDRESS) ack (Malformed WrongField) P (λ _ _. refl) (λ _ s. absurd s))
        (λ _ s. absurd s))
        (λ e. absurd (eqb-false t 1 e is_ack)))
        (λ _ s. absurd s)))

pub no_departure : (result : Reading) → ((message : Message) → result ≡ variants.Sound message → ⊥) → IsSound (reading_view result) → ⊥
no_departure (variants.Sound message) other sound = other message refl
no_departure result other sound = sound
