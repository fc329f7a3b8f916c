use Rattle.dna_packet.proofs.PacketLemmas.{packet_takes}
use Rattle.dna_packet.proofs.laws.packet_is_spelled.Goals as goal

pub returns : goal.returns
returns c = packet_takes
