-- Which reading the bytes of a unit have, as a rule (DDCMP 4.1, message formats): sound where they are the unit of a
-- message; header bad or data bad where a block check is cut or wrong; else malformed, by the first departure.
use Rattle.std.specs.Prelude.{◌≡◌, ◌≢◌, ℕ, ◌+◌, ◌<◌, ◌≤◌, ◌⊎◌, List, length, take, slice_index, slice_range}
use Rattle.wire_base.specs.BlockCheck.{HasGoodCheck}
use Rattle.ddcmp_msg.specs.declared.departure.Departure.{Departure}
use Rattle.ddcmp_msg.specs.declared.departure.Departure.TheVariants.{UnknownStart, Maintenance, WrongLength, UnknownType, WrongField}
use Rattle.ddcmp_msg.specs.Message.{MessageValue}
use Rattle.ddcmp_msg.specs.Spelling.{SOH, ENQ, DLE, ADDRESS, header, IsUnit}
use Rattle.ddcmp_msg.specs.Reading.{ReadingValue, Sound, HeaderBad, DataBad, Malformed, count_of, type_of, subtype_of, address_of}

abbrev pub start_of : List ℕ → ℕ
start_of unit = slice_index unit 0

-- eight bytes are there, six and their check
pub record HasGoodHeader (unit : List ℕ) : Type 0 where
  pub long : 8 ≤ length unit
  pub check : HasGoodCheck (take 8 unit)

-- after the header the data are there, as many as COUNT says, and their check
pub record HasGoodData (unit : List ℕ) : Type 0 where
  pub long : count_of unit + 10 ≤ length unit
  pub check : HasGoodCheck (slice_range unit 8 (count_of unit + 10))

-- some control message has this TYPE and SUBTYPE
abbrev pub HasKnownType : List ℕ → Type 0
HasKnownType unit =
    (message : MessageValue) × (start_of (header message) ≡ ENQ) × (type_of (header message) ≡ type_of unit)
    × (subtype_of (header message) ≡ subtype_of unit)

-- the first departure of a unit whose header is good, and after SOH with a COUNT its data too
abbrev pub Departs : Departure → List ℕ → Type 0
Departs UnknownStart unit = (start_of unit ≢ SOH) × (start_of unit ≢ ENQ) × (start_of unit ≢ DLE)
Departs Maintenance unit = start_of unit ≡ DLE
Departs WrongLength unit =
    ((start_of unit ≡ SOH) × (count_of unit ≡ 0))
    ⊎ (((start_of unit ≡ SOH) × HasGoodData unit × (count_of unit + 10 < length unit)) ⊎ ((start_of unit ≡ ENQ) × (8 < length unit)))
Departs UnknownType unit = (start_of unit ≡ ENQ) × (length unit ≡ 8) × ¬ HasKnownType unit
Departs WrongField unit =
    ((start_of unit ≡ SOH) × (count_of unit ≢ 0) × HasGoodData unit × (length unit ≡ count_of unit + 10) × (address_of unit ≢ ADDRESS))
    ⊎ ((start_of unit ≡ ENQ) × (length unit ≡ 8) × HasKnownType unit × ((message : MessageValue) → ¬ IsUnit message unit))

abbrev pub IsReading : ReadingValue → List ℕ → Type 0
IsReading (Sound message) unit = IsUnit message unit
IsReading HeaderBad unit = ¬ HasGoodHeader unit
IsReading DataBad unit = HasGoodHeader unit × (start_of unit ≡ SOH) × (count_of unit ≢ 0) × ¬ HasGoodData unit
IsReading (Malformed departure) unit = HasGoodHeader unit × Departs departure unit
