use Rattle.dna_station.proofs.Cut.Sending.{sending_refusal_same, sending_same, sending_labelled, first_same, label_same}
use Rattle.dna_station.proofs.laws.cut_sending.Goals as goal

pub returns : goal.returns
returns g c = record {
  refusal = λ all s m labelled ordered. sending_refusal_same all s labelled ordered m;
  step = λ all s m labelled ordered. sending_same all s labelled ordered m;
  labelled = λ all s m labelled. sending_labelled all s labelled m;
  first = λ all s m labelled ordered. first_same all s labelled ordered m;
  label = λ all s m ordered. label_same all s ordered m;
}
