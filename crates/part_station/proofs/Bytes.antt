-- RESP and NUM of a unit of bytes are bytes.
use Rattle.std.proofs.Common.{◌≡◌, ℕ, ◌+◌, ◌<◌, Bool, true, false, cond, eqb, ltb, Option, Some, None, List, length, take, subst, lit<}
use Rattle.std.specs.Prelude.{slice_index, slice_range}
use Rattle.wire_base.specs.BlockCheck.{is_good}
use Rattle.ddcmp_msg.specs.declared.nak_reason.NakReason.{NakReason}
use Rattle.ddcmp_msg.specs.Message.{MessageValue, Nak, IsBytes, reason_of}
use Rattle.ddcmp_msg.specs.Spelling.{SOH, ENQ, DLE, ADDRESS}
use Rattle.ddcmp_msg.specs.Reading.{ReadingValue, Sound, reading, count_of, type_of, subtype_of, unit_flags, receiver_of, sender_of, address_of}
use Rattle.ddcmp_msg.specs.Reading.{if_zero, if_address, data_message, data_reading, nak_reading, plain_reading, control_reading, checked_reading}
use Rattle.dna_station.specs.Book.{resp_of, num_of}

abbrev HasByte : ReadingValue → Type 0
HasByte (Sound m) = (resp_of m < 256) × (num_of m < 256)
HasByte bad = Unit {0}

either : (c : Bool) (r s : ReadingValue) → HasByte r → HasByte s → HasByte (cond c r s)
either true r s p q = p
either false r s p q = q

module _ (unit : List ℕ) (bytes : IsBytes unit) where
  addressed : (message : MessageValue) → (resp_of message < 256) × (num_of message < 256) → HasByte (if_address (address_of unit) message)
  addressed message l = either (eqb (address_of unit) ADDRESS) _ _ l tt

  zeroed : (byte : ℕ) (r : ReadingValue) → HasByte r → HasByte (if_zero byte r)
  zeroed byte r p = either (eqb byte 0) r _ p tt

  data_byte : HasByte (data_reading unit)
  data_byte =
      either (eqb (count_of unit) 0) _ _ tt
      (either (ltb (length unit) (count_of unit + 10)) _ _ tt
      (either (is_good (slice_range unit 8 (count_of unit + 10))) _ _
      (either (ltb (count_of unit + 10) (length unit)) _ _ tt (addressed (data_message unit) (bytes 3, bytes 4))) tt))

  nak_byte : (o : Option NakReason) → HasByte (nak_reading o unit)
  nak_byte None = tt
  nak_byte (Some reason) = zeroed (sender_of unit) _ (addressed (Nak (unit_flags unit) reason (receiver_of unit)) (bytes 3, lit< tt))

  plain_byte : (type : ℕ) → HasByte (plain_reading type unit)
  plain_byte type =
      either (eqb type 1) _ _ (zeroed (sender_of unit) _ (addressed _ (bytes 3, lit< tt)))
      (either (eqb type 3) _ _ (zeroed (receiver_of unit) _ (addressed _ (lit< tt, bytes 4)))
      (either (eqb type 6) _ _ (zeroed (receiver_of unit) _ (zeroed (sender_of unit) _ (addressed _ (lit< tt, lit< tt))))
      (either (eqb type 7) _ _ (zeroed (receiver_of unit) _ (zeroed (sender_of unit) _ (addressed _ (lit< tt, lit< tt)))) tt)))

  control_byte : HasByte (control_reading unit)
  control_byte =
      either (ltb 8 (length unit)) _ _ tt
      (either (eqb (type_of unit) 2) _ _ (nak_byte (reason_of (subtype_of unit)))
      (either (eqb (subtype_of unit) 0) _ _ (plain_byte (type_of unit)) tt))

  checked_byte : (start : ℕ) → HasByte (checked_reading start unit)
  checked_byte start =
      either (eqb start SOH) _ _ data_byte (either (eqb start ENQ) _ _ control_byte (either (eqb start DLE) _ _ tt tt))

  has_byte : HasByte (reading unit)
  unfolding reading
  has_byte = either (ltb (length unit) 8) _ _ tt (either (is_good (take 8 unit)) _ _ (checked_byte (slice_index unit 0)) tt)

  both_of : (m : MessageValue) → reading unit ≡ Sound m → (resp_of m < 256) × (num_of m < 256)
  both_of m e = subst HasByte e has_byte

  pub byte_of : (m : MessageValue) → reading unit ≡ Sound m → resp_of m < 256
  byte_of m e = (both_of m e).0

  pub num_byte_of : (m : MessageValue) → reading unit ≡ Sound m → num_of m < 256
  num_byte_of m e = (both_of m e).1
