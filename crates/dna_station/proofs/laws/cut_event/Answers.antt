use Rattle.dna_station.proofs.Cut.Label.{event_same, event_labelled}
use Rattle.dna_station.proofs.laws.cut_event.Goals as goal

pub returns : goal.returns
returns g c = record {
  step = λ all s event. event_same all s event;
  labelled = λ all s event labelled. event_labelled all s event labelled;
}
