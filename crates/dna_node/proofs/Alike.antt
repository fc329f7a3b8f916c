-- What holds of a world over both layers and stays with the sides exchanged: both sides have the same node, so that each record of a keeps it is
-- enough.
use Rattle.std.specs.Prelude.{◌≡◌, List, [], ◌∷◌, ◌++◌}
use Rattle.two_nodes.specs.Nodes.{Half, World, advance, exchanged_world}
use Rattle.two_nodes.specs.Nodes.Outcome.{Made}
use Rattle.two_nodes.specs.Kept.{IsKept}
use Rattle.capture_record.specs.declared.record.Record.{Record}
use Rattle.dna_station.specs.declared.head.Head.{Head}
use Rattle.dna_links.specs.declared.queue.Queues.{Queues}
use Rattle.dna_node.specs.Layers.{LayersNode, LayersUnit}
use Rattle.dna_node.specs.LayersPair.{layers_pair_by}

module _ (queues : Queues) where
  module _ (holds : (head_a head_b : Head) → World LayersNode LayersUnit → List Record → List Record → Type 0) where
    abbrev pub IsExchangeable : Type 0
    IsExchangeable = (head_a head_b : Head) (w : World LayersNode LayersUnit) (of_a of_b : List Record) → holds head_a head_b w of_a of_b →
        holds head_b head_a (exchanged_world w) of_b of_a

    abbrev pub IsKeptByA : Type 0
    IsKeptByA = (head_a head_b : Head) (w : World LayersNode LayersUnit) (made_a made_b : List Record) (r : Record) (h : Half LayersNode LayersUnit) →
        holds head_a head_b w made_a made_b → advance (layers_pair_by queues).node_a w.a w.b r ≡ Made h →
        holds head_a head_b (record { a = h; b = w.b }) (made_a ++ r ∷ []) made_b

    pub kept_alike : IsExchangeable → IsKeptByA → (head_a head_b : Head) → IsKept (layers_pair_by queues) (holds head_a head_b)
    kept_alike exchange by_a head_a head_b = record {
      by_a = by_a head_a head_b;
      by_b = λ w made_a made_b r h now made. exchange head_b head_a (record { a = h; b = w.a }) (made_b ++ r ∷ []) made_a
          (by_a head_b head_a (exchanged_world w) made_b made_a r h (exchange head_a head_b w made_a made_b now) made);
    }
