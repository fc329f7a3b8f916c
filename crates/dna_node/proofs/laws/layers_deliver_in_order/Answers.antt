use Rattle.dna_node.proofs.Joined.{all_joined}
use Rattle.dna_links.proofs.Runs.Every.{delivers, read, counted}
use Rattle.dna_node.proofs.laws.layers_deliver_in_order.Goals as goal

pub returns : goal.returns
returns c = record {
  of_a = λ queues head_a head_b w of_a of_b run. let j = all_joined queues head_a head_b w of_a of_b run in
      (delivers head_a.own head_a.peer head_b.own head_b.peer _ _ _ queues j.reached).0;
  of_b = λ queues head_a head_b w of_a of_b run. let j = all_joined queues head_a head_b w of_a of_b run in
      (delivers head_a.own head_a.peer head_b.own head_b.peer _ _ _ queues j.reached).1;
  a_captured = λ queues head_a head_b w of_a of_b run. let j = all_joined queues head_a head_b w of_a of_b run in
      (read head_a.own head_a.peer head_b.own head_b.peer _ _ _ queues j.reached).0;
  b_captured = λ queues head_a head_b w of_a of_b run. let j = all_joined queues head_a head_b w of_a of_b run in
      (read head_a.own head_a.peer head_b.own head_b.peer _ _ _ queues j.reached).1;
  a_counted = λ queues head_a head_b w of_a of_b run. let j = all_joined queues head_a head_b w of_a of_b run in
      (counted head_a.own head_a.peer head_b.own head_b.peer _ _ _ queues j.reached).0;
  b_counted = λ queues head_a head_b w of_a of_b run. let j = all_joined queues head_a head_b w of_a of_b run in
      (counted head_a.own head_a.peer head_b.own head_b.peer _ _ _ queues j.reached).1;
}
