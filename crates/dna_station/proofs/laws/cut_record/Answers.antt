use Rattle.std.proofs.Common.{refl}
use Rattle.dna_station.proofs.Cut.Node.{record_same}
use Rattle.dna_station.proofs.laws.cut_record.Goals as goal

pub returns : goal.returns
returns g c = record {
  start = λ head. refl;
  outcome = λ own other r bounded. record_same own other bounded r;
}
