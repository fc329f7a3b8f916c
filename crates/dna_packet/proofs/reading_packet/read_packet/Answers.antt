use Rattle.std.proofs.Common.{arith}
use Rattle.dna_packet.proofs.PacketLemmas.{is_found}
use Rattle.dna_packet.proofs.reading_packet.read_packet.Goals as goal

pub returns-clause-found : goal.returns-clause-found
returns-clause-found c = is_found c.args.bytes.now c.packet.result (λ i. omega (arith, c.type_inv.bytes i)) c.packet.ensures.read
