use Rattle.std.proofs.Common.{refl}
use Rattle.dna_station.proofs.Cut.Loads.{event_load, sending_load, arrival_load}
use Rattle.dna_station.proofs.laws.counts_rise_by_one.Goals as goal

pub returns : goal.returns
returns g c = record {
  event = λ w event. event_load w event;
  sending = λ w m. sending_load w m;
  label = λ w label. refl;
  arrival = λ w arrival kept. arrival_load w arrival kept;
}
