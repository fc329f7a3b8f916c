use Rattle.dna_station.proofs.Bounds.Ordered.{new_ordered, event_ordered, sending_ordered, arrival_ordered}
use Rattle.dna_station.proofs.laws.numbers_in_order.Goals as goal

pub returns : goal.returns
returns c = record {
  start = new_ordered;
  event = λ s event ordered. event_ordered s event ordered;
  sending = λ s m ordered allowed. sending_ordered s ordered m allowed;
  arrival = λ s arrival kept ordered. arrival_ordered s arrival kept ordered;
}
