-- Which node a packet names besides the two of its line.
use Rattle.std.specs.Prelude.{ℕ, ◌==◌, Bool, true, false, Option, Some, None, Result, Ok, Err, if◌then◌else◌}
use Rattle.dna_packet.specs.declared.fault.PacketFault.{PacketFault}
use Rattle.dna_packet.specs.Packet.{PacketValue, Data, Control}

abbrev pub is_other : (own peer node : ℕ) → Bool
is_other own peer node = if node == own then false else if node == peer then false else true

-- the node that it is from comes first
abbrev pub other_of : (own peer source destination : ℕ) → Option ℕ
other_of own peer source destination =
    if is_other own peer source then Some source else
    if is_other own peer destination then Some destination else
    None

abbrev pub other_named : (own peer : ℕ) → PacketValue → Option ℕ
other_named own peer (Data rtflg dst src forward nsp) = other_of own peer src dst
other_named own peer (Control bytes) = None

-- of what bytes were read as
abbrev pub other_in : (own peer : ℕ) → Result PacketValue PacketFault → Option ℕ
other_in own peer (Ok packet) = other_named own peer packet
other_in own peer (Err fault) = None
