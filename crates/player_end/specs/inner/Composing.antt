-- How a unit is put together, in the parts in which the code does it.
use Rattle.std.specs.Prelude.{◌+◌, Bool, true, false, Option, Some, None, length, slice_get}
use Rattle.ddcmp_msg.specs.Message.{MessageValue, Ack, Nak, Rep, Strt, Stack}
use Rattle.dna_station.specs.Station.{wire}
use Rattle.dna_station.specs.WireStation.{StationVariables}
use Rattle.dna_play.specs.NextSent.{Choice, SendStrt, SendStack, SendNak, SendRep, SendAgain, SendNew, SendAck}
use Rattle.dna_play.specs.Compose.{no_flags, start_flags, packet_again}

-- the message of a choice, where it is not of a new packet
abbrev pub without_links : Choice → StationVariables (Unit {0}) → Option MessageValue
without_links SendStrt k = Some (Strt start_flags)
without_links SendStack k = Some (Stack start_flags)
without_links (SendNak reason) k = Some (Nak no_flags reason k.received)
without_links SendRep k = Some (Rep no_flags (wire (k.acknowledged + length k.held)))
without_links SendAgain k = packet_again k (slice_get k.held k.ahead)
without_links (SendNew message) k = None
without_links SendAck k = Some (Ack no_flags k.received)

-- a new packet
abbrev pub is_new : Choice → Bool
is_new (SendNew message) = true
is_new choice = false
