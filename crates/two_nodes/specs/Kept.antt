-- A property of a world, with the records of a and of b made so far, that each further record keeps
use Rattle.std.specs.Prelude.{◌≡◌, List, [], ◌∷◌, ◌++◌}
use Rattle.two_nodes.specs.Nodes.{Nodes, Half, World, advance}
use Rattle.two_nodes.specs.Nodes.Outcome.{Made}

pub record IsKept {S R U Z : Type 0} (nodes : Nodes S R U Z) (holds : World S U → List R → List R → Type 0) : Type 0 where
  pub by_a : (w : World S U) (made_a made_b : List R) (r : R) (h : Half S U) →
      holds w made_a made_b → advance nodes.node_a w.a w.b r ≡ Made h → holds (record { a = h; b = w.b }) (made_a ++ r ∷ []) made_b
  pub by_b : (w : World S U) (made_a made_b : List R) (r : R) (h : Half S U) →
      holds w made_a made_b → advance nodes.node_b w.b w.a r ≡ Made h → holds (record { a = w.a; b = h }) made_a (made_b ++ r ∷ [])
