use Rattle.capture.proofs.RecordLaws.{record_read}
use Rattle.capture.proofs.laws.written_is_read.Goals as goal

pub returns : goal.returns
returns c = record_read
