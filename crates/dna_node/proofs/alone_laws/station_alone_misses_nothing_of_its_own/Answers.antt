use Rattle.dna_node.proofs.Alone.StationsAlone.{misses_none}
use Rattle.dna_node.proofs.alone_laws.station_alone_misses_nothing_of_its_own.Goals as goal

pub returns : goal.returns
returns c = record {
  offender = misses_none;
  named_of_a = λ head_a head_b of_a of_b place reason verdict seen. misses_none head_a head_b of_a of_b place reason verdict.1 seen;
  named_of_b = λ head_a head_b of_a of_b place reason verdict seen. misses_none head_b head_a of_b of_a place reason verdict.1 seen;
}
