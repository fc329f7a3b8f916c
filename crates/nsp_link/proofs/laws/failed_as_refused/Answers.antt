use Rattle.nsp_link.proofs.FailedArrival.{arrival_same}
use Rattle.nsp_link.proofs.FailedEvent.{event_same}
use Rattle.nsp_link.proofs.FailedSending.{sending_same}
use Rattle.nsp_link.proofs.laws.failed_as_refused.Goals as goal

pub returns : goal.returns
returns c = record { sending = sending_same; event = event_same; arrival = arrival_same }
