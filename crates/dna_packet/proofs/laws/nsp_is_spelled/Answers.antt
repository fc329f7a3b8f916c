use Rattle.dna_packet.proofs.NspTakes.{nsp_takes}
use Rattle.dna_packet.proofs.laws.nsp_is_spelled.Goals as goal

pub returns : goal.returns
returns c = nsp_takes
