use Rattle.dna_packet.proofs.NspFinal.{nsp_final}
use Rattle.dna_packet.proofs.laws.nsp_fault_is_final.Goals as goal

pub returns : goal.returns
returns c = nsp_final
