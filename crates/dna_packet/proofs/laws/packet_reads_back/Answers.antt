use Rattle.dna_packet.proofs.PacketLemmas.{packet_again}
use Rattle.dna_packet.proofs.laws.packet_reads_back.Goals as goal

pub returns : goal.returns
returns c = packet_again
