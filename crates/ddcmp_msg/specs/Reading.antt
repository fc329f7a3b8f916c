-- What the bytes of one unit say, as a reader finds it out from left to right (DDCMP 4.1, message formats). The laws of
-- `src/laws.rt` say that it is sound exactly on the units of messages, and when it is each of the other answers.
use Rattle.std.specs.Prelude.{◌≡◌, ℕ, ◌+◌, ◌*◌, ◌%◌, ◌==◌, nat_lt, if◌then◌else◌, Option, Some, None, List, length, take, slice_index, slice_range}
use Rattle.wire_base.specs.BlockCheck.{is_good}
use Rattle.ddcmp_msg.specs.declared.flags.Flags.{Flags}
use Rattle.ddcmp_msg.specs.declared.nak_reason.NakReason.{NakReason}
use Rattle.ddcmp_msg.specs.declared.departure.Departure.{Departure}
use Rattle.ddcmp_msg.specs.declared.departure.Departure.TheVariants.{UnknownStart, Maintenance, WrongLength, UnknownType, WrongField}
use Rattle.ddcmp_msg.specs.declared.reading.Reading.{Reading}
use Rattle.ddcmp_msg.specs.declared.reading.Reading.TheVariants as variants
use Rattle.ddcmp_msg.specs.declared.message.Message.{Message}
use Rattle.ddcmp_msg.specs.declared.message.Message.TheVariants as messages
use Rattle.std.specs.Borrow.{Bor}
use Rattle.ddcmp_msg.specs.Message.{MessageValue, Data, Ack, Nak, Rep, Strt, Stack, view, flags_of, reason_of}
use Rattle.ddcmp_msg.specs.Spelling.{SOH, ENQ, DLE, ADDRESS}

pub data ReadingValue : Type 0 where
  Sound : (message : MessageValue) → ReadingValue
  HeaderBad : ReadingValue
  DataBad : ReadingValue
  Malformed : (departure : Departure) → ReadingValue

-- what a reading of the code says
abbrev pub reading_view : Reading → ReadingValue
reading_view (variants.Sound message) = Sound (view message)
reading_view variants.HeaderBad = HeaderBad
reading_view variants.DataBad = DataBad
reading_view (variants.Malformed departure) = Malformed departure

-- The body of a message that was read is no copy: it lies in the bytes that were read, after the eight of the header.
abbrev pub BodyLiesIn : Message → Bor (List ℕ) → Type 0
BodyLiesIn (messages.Data flags resp num body) unit = (body.ref_ptr.0 ≡ unit.ref_ptr.0) × (body.ref_ptr.1 ≡ unit.ref_ptr.1 + 8)
BodyLiesIn message unit = Unit {0}

abbrev pub LiesIn : Reading → Bor (List ℕ) → Type 0
LiesIn (variants.Sound message) unit = BodyLiesIn message unit
LiesIn reading unit = Unit {0}

abbrev pub departure_number : Departure → ℕ
departure_number UnknownStart = 1
departure_number Maintenance = 2
departure_number WrongLength = 3
departure_number UnknownType = 4
departure_number WrongField = 5

-- ---- the fields of a header, by the places of its bytes

abbrev pub count_of : List ℕ → ℕ
count_of unit = slice_index unit 1 + 256 * (slice_index unit 2 % 64)

abbrev pub type_of : List ℕ → ℕ
type_of unit = slice_index unit 1

abbrev pub subtype_of : List ℕ → ℕ
subtype_of unit = slice_index unit 2 % 64

abbrev pub unit_flags : List ℕ → Flags
unit_flags unit = flags_of (slice_index unit 2)

-- RESP, or RCVR of a control message
abbrev pub receiver_of : List ℕ → ℕ
receiver_of unit = slice_index unit 3

-- NUM, or SNDR of a control message
abbrev pub sender_of : List ℕ → ℕ
sender_of unit = slice_index unit 4

abbrev pub address_of : List ℕ → ℕ
address_of unit = slice_index unit 5

-- ---- the reading

-- a byte that the format gives as 0
abbrev pub if_zero : ℕ → ReadingValue → ReadingValue
if_zero byte reading = if byte == 0 then reading else Malformed WrongField

-- the address, of which one value alone is right
abbrev pub if_address : ℕ → MessageValue → ReadingValue
if_address address message = if address == ADDRESS then Sound message else Malformed WrongField

-- a data message, where all its bytes are there and check
abbrev pub data_message : List ℕ → MessageValue
data_message unit = Data (unit_flags unit) (receiver_of unit) (sender_of unit) (slice_range unit 8 (8 + count_of unit))

-- after SOH: COUNT, the data with their check, the end, and the address
abbrev pub data_reading : List ℕ → ReadingValue
data_reading unit =
    if count_of unit == 0 then Malformed WrongLength
    else (if nat_lt (length unit) (count_of unit + 10) then DataBad
    else (if is_good (slice_range unit 8 (count_of unit + 10))
    then (if nat_lt (count_of unit + 10) (length unit) then Malformed WrongLength else if_address (address_of unit) (data_message unit))
    else DataBad))

-- a NAK with the reason of its SUBTYPE
abbrev pub nak_reading : Option NakReason → List ℕ → ReadingValue
nak_reading None unit = Malformed UnknownType
nak_reading (Some reason) unit = if_zero (sender_of unit) (if_address (address_of unit) (Nak (unit_flags unit) reason (receiver_of unit)))

-- the control messages of SUBTYPE 0, by TYPE
abbrev pub plain_reading : ℕ → List ℕ → ReadingValue
plain_reading type unit =
    if type == 1 then if_zero (sender_of unit) (if_address (address_of unit) (Ack (unit_flags unit) (receiver_of unit)))
    else (if type == 3 then if_zero (receiver_of unit) (if_address (address_of unit) (Rep (unit_flags unit) (sender_of unit)))
    else (if type == 6 then if_zero (receiver_of unit) (if_zero (sender_of unit) (if_address (address_of unit) (Strt (unit_flags unit))))
    else (if type == 7 then if_zero (receiver_of unit) (if_zero (sender_of unit) (if_address (address_of unit) (Stack (unit_flags unit))))
    else Malformed UnknownType)))

-- after ENQ: the end, TYPE and SUBTYPE, and the bytes of one value
abbrev pub control_reading : List ℕ → ReadingValue
control_reading unit =
    if nat_lt 8 (length unit) then Malformed WrongLength
    else (if type_of unit == 2 then nak_reading (reason_of (subtype_of unit)) unit
    else (if subtype_of unit == 0 then plain_reading (type_of unit) unit else Malformed UnknownType))

-- a unit whose header is good, by its first byte
abbrev pub checked_reading : ℕ → List ℕ → ReadingValue
checked_reading start unit =
    if start == SOH then data_reading unit
    else (if start == ENQ then control_reading unit
    else (if start == DLE then Malformed Maintenance else Malformed UnknownStart))

unfoldable pub reading : List ℕ → ReadingValue
reading unit =
    if nat_lt (length unit) 8 then HeaderBad
    else (if is_good (take 8 unit) then checked_reading (slice_index unit 0) unit else HeaderBad)

-- a message, and no departure or damage
abbrev pub IsSound : ReadingValue → Type 0
IsSound (Sound message) = Unit {0}
IsSound HeaderBad = ⊥
IsSound DataBad = ⊥
IsSound (Malformed departure) = ⊥
