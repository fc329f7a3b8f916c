-- How a packet is read: from left to right, with the first departure.
use Rattle.std.specs.Prelude.{ℕ, ◌%◌, List, [], ◌∷◌, Result, Ok, Err, nat_le, ◌==◌, if◌then◌else◌}
use Rattle.dna_packet.specs.declared.fault.PacketFault.{PacketFault}
use Rattle.dna_packet.specs.declared.fault.PacketFault.TheVariants.{Padded, LongFormat, Short, UnknownFlags}
use Rattle.dna_packet.specs.Fields.{◌>>=◌, byte_at, word_at}
use Rattle.dna_packet.specs.Packet.{PacketValue, Data, Control}

-- what follows RTFLG in a short data packet
abbrev pub data_at : ℕ → List ℕ → Result PacketValue PacketFault
data_at rtflg bytes = do
  dst ← word_at Short bytes
  src ← word_at Short dst.1
  forward ← byte_at Short src.1
  Ok (Data rtflg dst.0 src.0 forward.0 forward.1)

abbrev pub packet_at : List ℕ → Result PacketValue PacketFault
packet_at [] = Err Short
packet_at (rtflg ∷ rest) =
    if nat_le 128 rtflg then Err Padded else
    if rtflg % 2 == 1 then Ok (Control (rtflg ∷ rest)) else
    if rtflg % 8 == 6 then Err LongFormat else
    if rtflg % 8 == 2 then data_at rtflg rest else
    Err UnknownFlags
