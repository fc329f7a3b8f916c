use Rattle.dna_packet.proofs.NspAgain.{nsp_again}
use Rattle.dna_packet.proofs.laws.nsp_reads_back.Goals as goal

pub returns : goal.returns
returns c = nsp_again
