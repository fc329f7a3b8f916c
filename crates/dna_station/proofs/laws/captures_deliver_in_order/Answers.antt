use Rattle.dna_station.proofs.Delivery.InOrderRuns.{side_delivers, side_among}
use Rattle.dna_station.proofs.Delivery.Offered.{all_offered}
use Rattle.dna_station.proofs.Delivery.OfferedRuns.{delivers}
use Rattle.dna_station.proofs.laws.captures_deliver_in_order.Goals as goal

pub returns : goal.returns
returns c = record {
  a_offered = λ head_a head_b w of_a of_b run. (all_offered head_a head_b w of_a of_b run).of_a.gave;
  b_offered = λ head_a head_b w of_a of_b run. (all_offered head_a head_b w of_a of_b run).of_b.gave;
  a_delivers = λ head_a head_b w of_a of_b run.
      let all = all_offered head_a head_b w of_a of_b run in let own = all.of_a.order in
      delivers w.a.state.station w.b.state.station of_a of_b (side_delivers w.a w.b of_a own) (side_among w.a w.b of_a own) own.took all.of_b.gave;
  b_delivers = λ head_a head_b w of_a of_b run.
      let all = all_offered head_a head_b w of_a of_b run in let own = all.of_b.order in
      delivers w.b.state.station w.a.state.station of_b of_a (side_delivers w.b w.a of_b own) (side_among w.b w.a of_b own) own.took all.of_a.gave;
}
