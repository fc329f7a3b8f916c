use Rattle.dna_node.proofs.Joined.{all_joined}
use Rattle.dna_node.proofs.laws.links_meet_packets_in_order.Goals as goal

pub returns : goal.returns
returns c = record { joined = λ queues head_a head_b w of_a of_b run. all_joined queues head_a head_b w of_a of_b run }
