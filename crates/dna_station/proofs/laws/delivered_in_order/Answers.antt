use Rattle.dna_station.proofs.Delivery.InOrderRuns.{in_order, side_delivers, side_among}
use Rattle.dna_station.proofs.laws.delivered_in_order.Goals as goal

pub returns : goal.returns
returns c = record {
  of_a = λ head_a head_b w of_a of_b run. side_delivers w.a w.b of_a (in_order head_a head_b w of_a of_b run).of_a;
  of_b = λ head_a head_b w of_a of_b run. side_delivers w.b w.a of_b (in_order head_a head_b w of_a of_b run).of_b;
  a_captured = λ head_a head_b w of_a of_b run. (in_order head_a head_b w of_a of_b run).of_a.took;
  b_captured = λ head_a head_b w of_a of_b run. (in_order head_a head_b w of_a of_b run).of_b.took;
  a_among = λ head_a head_b w of_a of_b run. side_among w.a w.b of_a (in_order head_a head_b w of_a of_b run).of_a;
  b_among = λ head_a head_b w of_a of_b run. side_among w.b w.a of_b (in_order head_a head_b w of_a of_b run).of_b;
}
