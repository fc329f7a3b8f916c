-- What is left of a station, and of what it sends, where packets become others. Numbers, periods and causes stay.
use Rattle.std.specs.Prelude.{ℕ, List, map}
use Rattle.ddcmp_msg.specs.Message.{MessageValue, Data}
use Rattle.ddcmp_msg.specs.Reading.{ReadingValue, reading, Sound}
use Rattle.ddcmp_msg.specs.Spelling.{spelling}
use Rattle.dna_station.specs.Station.{Station, PastPeriod}

-- what becomes of the packets that this side sends, and of those that the other side does
pub record Packets : Type 0 where
  pub own : List ℕ → List ℕ
  pub far : List ℕ → List ℕ

abbrev pub with_body : (List ℕ → List ℕ) → MessageValue → MessageValue
with_body packet (Data flags resp num body) = Data flags resp num (packet body)
with_body packet m = m

-- the block checks of a data message are made anew
abbrev pub bytes_left_by : (List ℕ → List ℕ) → List ℕ → ReadingValue → List ℕ
bytes_left_by packet unit (Sound (Data flags resp num body)) = spelling (Data flags resp num (packet body))
bytes_left_by packet unit read = unit

-- the bytes of a unit
abbrev pub bytes_left : (List ℕ → List ℕ) → List ℕ → List ℕ
bytes_left packet unit = bytes_left_by packet unit (reading unit)

abbrev pub past_left : Packets → PastPeriod → PastPeriod
past_left packets period = record { partner = period.partner; given = map packets.own period.given; taken = map packets.far period.taken }

abbrev pub station_left : Packets → Station → Station
station_left packets s =
    record s { packets = map packets.own s.packets; taken = map packets.far s.taken; earlier = map (past_left packets) s.earlier }
