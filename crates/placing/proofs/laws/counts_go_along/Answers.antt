use Rattle.std.proofs.Common.{refl}
use Rattle.placing.proofs.Counts.{event_counted, refusal_counted, sending_counted, coming_refused, arrival_counted}
use Rattle.placing.proofs.laws.counts_go_along.Goals as goal

pub returns : goal.returns
returns g c = record {
  new = refl;
  event = event_counted;
  may_send = refusal_counted;
  sent = sending_counted;
  may_come = coming_refused;
  arrived = arrival_counted;
}
