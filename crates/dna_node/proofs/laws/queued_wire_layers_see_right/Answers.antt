use Rattle.std.proofs.Common.{[], ap, ◌∙◌}
use Rattle.two_nodes.specs.Nodes.{World, advance}
use Rattle.dna_links.specs.declared.queue.Queues.TheVariants.{With}
use Rattle.dna_node.specs.LayersPair.{layers_start}
use Rattle.dna_node.specs.WireLayers.{WireLayersNode, WireLayersUnit, wire_layers_pair_by}
use Rattle.dna_node.proofs.LayersRead.{start_read}
use Rattle.dna_node.proofs.LayersBounds.{layers_kept, a_same, b_same, layers_commute}
use Rattle.dna_node.proofs.laws.queued_wire_layers_see_right.Goals as goal

pub returns-clause-of_true : goal.returns-clause-of_true
returns-clause-of_true c = λ head_a head_b w of_a of_b run.
    c.simulation.ensures.seen (layers_start head_a head_b) w [] [] of_a of_b (layers_kept With) (layers_commute With)
    (head_a, head_b, start_read With head_a head_b) run

pub returns-clause-of_wire : goal.returns-clause-of_wire
returns-clause-of_wire c = λ head_a head_b end of_a of_b run.
    let from = c.simulation.ensures.comes_of (layers_start head_a head_b) end [] [] of_a of_b (layers_kept With) (layers_commute With)
    (head_a, head_b, start_read With head_a head_b) run in
    record {
      world = from.end;
      run = from.run;
      is_cut = from.is_cut;
      same_a = λ r. ap (λ (w : World WireLayersNode WireLayersUnit). advance (wire_layers_pair_by With).node_a w.a w.b r) from.is_cut ∙
          a_same With from.end of_a of_b from.holds_there r;
      same_b = λ r. ap (λ (w : World WireLayersNode WireLayersUnit). advance (wire_layers_pair_by With).node_b w.b w.a r) from.is_cut ∙
          b_same With from.end of_a of_b from.holds_there r;
    }
