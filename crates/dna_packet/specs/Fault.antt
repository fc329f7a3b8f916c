-- The numbers of the faults, which printed answers and other tools use.
use Rattle.std.specs.Prelude.{ℕ}
use Rattle.dna_packet.specs.declared.fault.PacketFault.{PacketFault}
use Rattle.dna_packet.specs.declared.fault.PacketFault.TheVariants.{Padded, LongFormat, Short, UnknownFlags}
use Rattle.dna_packet.specs.declared.fault.NspFault.{NspFault}
use Rattle.dna_packet.specs.declared.fault.NspFault.TheVariants.{UnknownFlag, MissingField, BadAckWord, BadSegnum, TrailingBytes, NonzeroDstaddr}

abbrev pub packet_fault_number : PacketFault → ℕ
packet_fault_number Padded = 1
packet_fault_number LongFormat = 2
packet_fault_number Short = 3
packet_fault_number UnknownFlags = 4

abbrev pub nsp_fault_number : NspFault → ℕ
nsp_fault_number UnknownFlag = 1
nsp_fault_number MissingField = 2
nsp_fault_number BadAckWord = 3
nsp_fault_number BadSegnum = 4
nsp_fault_number TrailingBytes = 5
nsp_fault_number NonzeroDstaddr = 6
