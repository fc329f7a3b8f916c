use Rattle.dna_packet.specs.Nsp.{view}
use Rattle.dna_packet.specs.declared.nsp.Nsp.TheVariants as rust
use Rattle.dna_packet.proofs.NspAgain.{reads_back}
use Rattle.dna_packet.proofs.writing_nsp.write_nsp.Goals as goal

pub returns-in-DataSegment-clause-read : goal.returns-in-DataSegment-clause-read
returns-in-DataSegment-clause-read c =
    rw c.in-DataSegment.is (reads_back (view (rust.DataSegment c.in-DataSegment.message)) c.segment.result (rw c.in-DataSegment.is at c.requires)
    c.segment.ensures)

pub returns-in-DataAck-clause-read : goal.returns-in-DataAck-clause-read
returns-in-DataAck-clause-read c =
    rw c.in-DataAck.is (reads_back (view (rust.DataAck c.in-DataAck.message)) c.data_ack.result (rw c.in-DataAck.is at c.requires) c.data_ack.ensures)
