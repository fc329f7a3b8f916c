use Rattle.pair_judge.proofs.FailedAsRefused.{arrival_same, message_same, user_same}
use Rattle.pair_judge.proofs.failed_laws.failed_check_as_refused.Goals as goal

pub returns : goal.returns
returns c = record { message = message_same; arrival = arrival_same; user = user_same }
