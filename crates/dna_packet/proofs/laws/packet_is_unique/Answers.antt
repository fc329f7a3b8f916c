use Rattle.dna_packet.proofs.PacketLemmas.{packet_unique}
use Rattle.dna_packet.proofs.laws.packet_is_unique.Goals as goal

pub returns : goal.returns
returns c = packet_unique
