use Rattle.dna_packet.proofs.NspAgain.{nsp_unique}
use Rattle.dna_packet.proofs.laws.nsp_is_unique.Goals as goal

pub returns : goal.returns
returns c = nsp_unique
