-- One direction of the line: what is sent, and what the bytes of a receipt are to the unit that its hint names.
use Rattle.std.specs.Prelude.{ℕ, Bool, true, false, Option, Some, None, List}
use Rattle.std.specs.Str.{bytes_eq}
use Rattle.ddcmp_msg.specs.Message.{MessageValue}
use Rattle.ddcmp_msg.specs.Reading.{ReadingValue, reading, Malformed}
use Rattle.ddcmp_msg.specs.Reading as read
use Rattle.dna_station.specs.Truth.{Truth}
use Rattle.dna_station.specs.Book.{ArrivalValue, Sound, HeaderBad, DataBad}

-- A unit that was sent: its bytes, the message that they are, and what is known of it beside the line
pub record UnitOf (K : Type 0) : Type 0 where
  pub bytes : List ℕ
  pub message : MessageValue
  pub known : K

-- with its truth
abbrev pub SentUnit : Type 0
SentUnit = UnitOf Truth

module _ {K : Type 0} where
  -- bytes that are not the unit's: damage that a block check shows, or else nothing that can come of a unit
  abbrev pub damage : ReadingValue → Option (ArrivalValue K)
  damage read.HeaderBad = Some HeaderBad
  damage read.DataBad = Some DataBad
  damage (read.Sound message) = None
  damage (Malformed departure) = None

  abbrev pub coming_by : Bool → UnitOf K → ReadingValue → Option (ArrivalValue K)
  coming_by true unit read = Some (Sound unit.message unit.known)
  coming_by false unit read = damage read

  -- what comes with these bytes for this unit, if that can be
  abbrev pub coming : UnitOf K → List ℕ → Option (ArrivalValue K)
  coming unit bytes = coming_by (bytes_eq bytes unit.bytes) unit (reading bytes)
