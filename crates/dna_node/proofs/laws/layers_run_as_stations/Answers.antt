use Rattle.dna_node.specs.LayersPair.{layers_start}
use Rattle.dna_node.proofs.Follows.{run_of_stations}
use Rattle.dna_node.proofs.laws.layers_run_as_stations.Goals as goal

pub returns : goal.returns
returns c = record { run = λ queues head_a head_b w of_a of_b run. run_of_stations queues (layers_start head_a head_b) w of_a of_b run }
