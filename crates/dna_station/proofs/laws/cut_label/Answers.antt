use Rattle.dna_station.proofs.Cut.Label.{label_same, label_labelled}
use Rattle.dna_station.proofs.laws.cut_label.Goals as goal

pub returns : goal.returns
returns g c = record {
  step = λ all s label labelled some. label_same all s labelled some label;
  labelled = λ all s label labelled. label_labelled all s label labelled;
}
