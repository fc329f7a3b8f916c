use Rattle.dna_station.proofs.Cut.Arriving.{arrival_refusal_same, arrival_same, taken_same, header_same, data_bad_same}
use Rattle.dna_station.proofs.laws.cut_arrival.Goals as goal

pub returns : goal.returns
returns g c = record {
  refusal = λ all s rule m u kept labelled ordered within. arrival_refusal_same all rule s m u kept within;
  step = λ all s m u kept labelled ordered within. arrival_same all s labelled ordered m u kept within;
  taken = λ all s m u kept within. taken_same all s m u kept within;
  header_bad = λ all s kept. header_same all s kept;
  data_bad = λ all s kept. data_bad_same all s kept;
}
