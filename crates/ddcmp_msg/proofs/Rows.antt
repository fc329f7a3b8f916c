-- Rows of bytes, read and spelled by the definitions alone: the checks that are computed here are the format's own.
use Rattle.std.proofs.Common.{◌≡◌, true, false, [], ◌∷◌}
use Rattle.wire_base.specs.BlockCheck.{is_good, check_of, after_byte, shift}
use Rattle.ddcmp_msg.specs.declared.nak_reason.NakReason.TheVariants.{DataCheck}
use Rattle.ddcmp_msg.specs.declared.departure.Departure.TheVariants.{UnknownStart, Maintenance, WrongLength, UnknownType, WrongField}
use Rattle.ddcmp_msg.specs.Message.{Data, Ack, Nak, Rep, Strt, Stack}
use Rattle.ddcmp_msg.specs.Spelling.{spelling}
use Rattle.ddcmp_msg.specs.Reading.{Sound, HeaderBad, DataBad, Malformed, reading}
use Rattle.ddcmp_msg.proofs.Bits.{made}

record Rows : Type 0 where
  -- ---- sound
  strt : reading (5 ∷ 6 ∷ 0xc0 ∷ 0 ∷ 0 ∷ 1 ∷ 0x75 ∷ 0x95 ∷ []) ≡ Sound (Strt (made true true))
  stack : reading (5 ∷ 7 ∷ 0xc0 ∷ 0 ∷ 0 ∷ 1 ∷ 0x48 ∷ 0x55 ∷ []) ≡ Sound (Stack (made true true))
  ack : reading (5 ∷ 1 ∷ 0 ∷ 0 ∷ 0 ∷ 1 ∷ 0xfc ∷ 0x55 ∷ []) ≡ Sound (Ack (made false false) 0)
  nak : reading (5 ∷ 2 ∷ 2 ∷ 1 ∷ 0 ∷ 1 ∷ 0xe8 ∷ 0x2d ∷ []) ≡ Sound (Nak (made false false) DataCheck 1)
  rep : reading (5 ∷ 3 ∷ 0 ∷ 0 ∷ 1 ∷ 1 ∷ 0x84 ∷ 5 ∷ []) ≡ Sound (Rep (made false false) 1)
  first_data : reading (0x81 ∷ 1 ∷ 0 ∷ 0 ∷ 1 ∷ 1 ∷ 0xe3 ∷ 0x81 ∷ 5 ∷ 0xc0 ∷ 3 ∷ []) ≡ Sound (Data (made false false) 0 1 (5 ∷ []))
  -- ---- a check that is wrong
  header_cut : reading (5 ∷ 6 ∷ 0xc0 ∷ 0 ∷ 0 ∷ 1 ∷ 0x75 ∷ []) ≡ HeaderBad
  data_cut : reading (0x81 ∷ 1 ∷ 0 ∷ 0 ∷ 1 ∷ 1 ∷ 0xe3 ∷ 0x81 ∷ 5 ∷ 0xc0 ∷ []) ≡ DataBad
  -- ---- a departure from the formats
  zeros : reading (0 ∷ 0 ∷ 0 ∷ 0 ∷ 0 ∷ 0 ∷ 0 ∷ 0 ∷ []) ≡ Malformed UnknownStart
  maintenance : reading (0x90 ∷ 0 ∷ 0 ∷ 0 ∷ 0 ∷ 1 ∷ 0xdc ∷ 0x90 ∷ []) ≡ Malformed Maintenance
  one_more : reading (0x81 ∷ 1 ∷ 0 ∷ 0 ∷ 1 ∷ 1 ∷ 0xe3 ∷ 0x81 ∷ 5 ∷ 0xc0 ∷ 3 ∷ 0 ∷ []) ≡ Malformed WrongLength
  reason_4 : reading (5 ∷ 2 ∷ 4 ∷ 0 ∷ 0 ∷ 1 ∷ 0xb9 ∷ 0x65 ∷ []) ≡ Malformed UnknownType
  address_2 : reading (5 ∷ 1 ∷ 0 ∷ 0 ∷ 0 ∷ 2 ∷ 0xbc ∷ 0x54 ∷ []) ≡ Malformed WrongField
  -- ---- spelled
  first_spelled : spelling (Data (made false false) 0 1 (5 ∷ [])) ≡ 0x81 ∷ 1 ∷ 0 ∷ 0 ∷ 1 ∷ 1 ∷ 0xe3 ∷ 0x81 ∷ 5 ∷ 0xc0 ∷ 3 ∷ []
  nak_spelled : spelling (Nak (made false false) DataCheck 1) ≡ 5 ∷ 2 ∷ 2 ∷ 1 ∷ 0 ∷ 1 ∷ 0xe8 ∷ 0x2d ∷ []

computed : Rows
unfolding reading spelling is_good check_of after_byte shift
computed = search
