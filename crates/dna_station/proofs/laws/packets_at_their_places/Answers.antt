use Rattle.dna_station.proofs.Delivery.InOrderRuns.{in_order}
use Rattle.dna_station.proofs.laws.packets_at_their_places.Goals as goal

pub returns : goal.returns
returns c = record {
  of_a = λ head_a head_b w of_a of_b run. (in_order head_a head_b w of_a of_b run).of_a.places;
  of_b = λ head_a head_b w of_a of_b run. (in_order head_a head_b w of_a of_b run).of_b.places;
}
