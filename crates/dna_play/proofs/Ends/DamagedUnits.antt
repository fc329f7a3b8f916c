-- A unit that is damaged by a step of a script shows it, and its bytes are no longer those that were sent.
use Rattle.dna_play.proofs.Prelude.{refl, ◌≡◌, ◌≢◌, ℕ, suc, ◌<◌, ◌≤◌, ◌^◌, true, false, ◌&&◌, List, ◌∷◌, ◌++◌, length, sym, ap, ◌∙◌, subst, arith}
use Rattle.dna_play.proofs.Prelude.{ltb-true, leb-true, inl, inr, nat_lt, nat_le, lt-ltb, le-leb, slice_index, bytes_eq, bit_xor, drop, take}
use Rattle.dna_play.proofs.Prelude.{xor_self, xor_zero_l, xor_assoc, and_parts, false_from_ne_true, append_cancel_left, set-get_or, set_split}
use Rattle.dna_play.proofs.Prelude.{xor_of_8, bytes_eq-Decides, MessageValue, IsUnit, ReadingValue, HeaderBad, DataBad, reading, damage_shows}
use Rattle.dna_play.proofs.Prelude.{reading_follows, IsReading, are_bytes, ArrivalValue, is_damage, damaged, IsNoise, IsHurt}
use Rattle.ddcmp_msg.specs.Reading.{Sound}
use Rattle.dna_station.specs.Book as book
use Rattle.dna_play.proofs.Bytes.{bytes_told}

-- ---- what a block check shows: the header is damaged, or the data

pub data ShownDamage : Type 0 where
  OfHeader : ShownDamage
  OfData : ShownDamage

abbrev pub read_of : ShownDamage → ReadingValue
read_of OfHeader = HeaderBad
read_of OfData = DataBad

abbrev pub arrival_of : {K : Type 0} → ShownDamage → ArrivalValue K
arrival_of OfHeader = book.HeaderBad
arrival_of OfData = book.DataBad

pub damage_of : (bytes : List ℕ) → IsNoise bytes → (d : ShownDamage) × (reading bytes ≡ read_of d)
damage_of bytes (inl e) = (OfHeader, e)
damage_of bytes (inr e) = (OfData, e)

-- ---- what the rule of a step says of damage, as a test

pub hurt_of : (place value : ℕ) (bytes : List ℕ) → is_damage place value bytes ≡ true → IsHurt place value bytes
hurt_of place value bytes is =
    let p = and_parts (nat_lt place (length bytes)) (nat_le 1 value && nat_le value 255) is in let q =
    and_parts (nat_le 1 value) (nat_le value 255) p.1 in
    record { inside = ltb-true place (length bytes) p.0; least = leb-true 1 value q.0; most = leb-true value 255 q.1 }

pub is_hurt : (place value : ℕ) (bytes : List ℕ) → IsHurt place value bytes → is_damage place value bytes ≡ true
is_hurt place value bytes hurt = rw (lt-ltb place (length bytes) hurt.inside, le-leb 1 value hurt.least, le-leb value 255 hurt.most) refl

-- ---- a unit that is damaged shows it

-- exclusive or with what is not 0 is another number
changes : (x v : ℕ) → 1 ≤ v → bit_xor x v ≡ x → ⊥
changes x v some e =
    let zero_is : v ≡ 0 = sym (xor_zero_l v) ∙ ap (λ (n : ℕ). bit_xor n v) (sym (xor_self x)) ∙ xor_assoc x x v ∙ ap (bit_xor x) e ∙ xor_self x in
    omega arith

-- bytes that are read as a message are its unit
pub unit_of : (m : MessageValue) (bytes : List ℕ) → are_bytes bytes ≡ true → reading bytes ≡ Sound m → IsUnit m bytes
unit_of m bytes are e = subst (λ (r : ReadingValue). IsReading r bytes) e (reading_follows bytes (bytes_told bytes are))

pub record Damaged (place value : ℕ) (bytes : List ℕ) : Type 0 where
  pub shows : IsNoise (damaged place value bytes)
  pub differs : bytes_eq (damaged place value bytes) bytes ≡ false

pub damage_is_seen : (m : MessageValue) (bytes : List ℕ) (place value : ℕ) → are_bytes bytes ≡ true → reading bytes ≡ Sound m →
    is_damage place value bytes ≡ true → Damaged place value bytes
damage_is_seen m bytes place value are e d =
    let hurt = hurt_of place value bytes d in
    let some = hurt.least in let most = hurt.most in
    let byte = slice_index bytes place in
    let before = take place bytes in let after = drop (suc place) bytes in
    let small : byte < 2 ^ 8 = bytes_told bytes are place in
    let y = bit_xor byte value in
    let other : y ≢ byte = λ f. changes byte value some f in
    let whole : bytes ≡ before ++ byte ∷ after = sym (set-get_or bytes place 0) ∙ set_split bytes place byte hurt.inside in
    let is : damaged place value bytes ≡ before ++ y ∷ after = set_split bytes place y hurt.inside in
    record {
      shows = rw is (damage_shows m before byte y after (subst (IsUnit m) whole (unit_of m bytes are e))
          (xor_of_8 byte value small (omega arith)) other);
      differs = false_from_ne_true _ (λ e. other (
          let f : y ∷ after ≡ byte ∷ after =
          append_cancel_left before (y ∷ after) (byte ∷ after) (sym is ∙ (bytes_eq-Decides (damaged place value bytes) bytes).0 e ∙ whole) in cc));
    }
