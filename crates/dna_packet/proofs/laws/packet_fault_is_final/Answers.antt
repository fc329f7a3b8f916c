use Rattle.dna_packet.proofs.PacketFinal.{packet_final}
use Rattle.dna_packet.proofs.laws.packet_fault_is_final.Goals as goal

pub returns : goal.returns
returns c = packet_final
