-- What a permit tells of a step that is allowed.
use Rattle.std.specs.Prelude.{◌≡◌, Bool, true, false}
use Rattle.ddcmp_msg.specs.Message.{MessageValue}
use Rattle.dna_station.specs.declared.tag.Tag.{Tag}
use Rattle.dna_station.specs.ArrivalRows.{row_view}
use Rattle.dna_station.specs.declared.arrival_row.ArrivalRow.{ArrivalRow}
use Rattle.dna_station.specs.Table.{Change, SendPacket, change_of, row}
use Rattle.dna_station.specs.Book.{ArrivalValue, Sound, HeaderBad, DataBad}
use Rattle.dna_station.specs.WireStation.{WireStation}
use Rattle.dna_station.specs.WireBook.{wire_is_new}
use Rattle.ddcmp_station.specs.declared.permit.SendPermit.{SendPermit}
use Rattle.ddcmp_station.specs.declared.permit.SendPermit.TheVariants as permits

-- a packet with a new number, or one that goes again
abbrev pub of_packet : (new : Bool) → SendPermit
of_packet true = permits.FirstSending
of_packet false = permits.Repeat

abbrev pub permit_by : Change → (new : Bool) → SendPermit
permit_by SendPacket new = of_packet new
permit_by change new = permits.Control

abbrev pub is_first : SendPermit → Bool
is_first permits.FirstSending = true
is_first permit = false

module _ {L : Type 0} where
  abbrev pub send_permit : WireStation L → MessageValue → SendPermit
  send_permit w m = permit_by (change_of m) (wire_is_new w.variables)

  -- the row of a sound message; of what shows damage nothing is told
  abbrev pub IsRow : WireStation L → ArrivalValue Tag → ArrivalRow → Type 0
  IsRow w (Sound m tag) arrival_row = row_view arrival_row ≡ row w.variables.state m
  IsRow w HeaderBad arrival_row = Unit {0}
  IsRow w DataBad arrival_row = Unit {0}
