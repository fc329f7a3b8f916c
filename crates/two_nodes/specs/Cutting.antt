-- Two nodes, and two others that see less of the same records: a map of the states and units of the first to those of the others
use Rattle.std.specs.Prelude.{◌≡◌, List, ◌++◌, map}
use Rattle.two_nodes.specs.Nodes.{Nodes, Half, World, Outcome, Run, advance}
use Rattle.two_nodes.specs.Nodes.Outcome.{Made, Waits, Refused}

-- What the others see of a state and of a unit
pub record Cut (S U S' U' : Type 0) : Type 0 where
  pub of_state : S → S'
  pub of_unit : U → U'

abbrev pub cut_half : {S U S' U' : Type 0} → Cut S U S' U' → Half S U → Half S' U'
cut_half cut half = record { state = cut.of_state half.state; sent = map cut.of_unit half.sent }

abbrev pub cut_world : {S U S' U' : Type 0} → Cut S U S' U' → World S U → World S' U'
cut_world cut w = record { a = cut_half cut w.a; b = cut_half cut w.b }

-- The same becomes of a record: it is made, it waits, or it is refused for the same reason
abbrev pub cut_outcome : {S U S' U' Z : Type 0} → Cut S U S' U' → Outcome S U Z → Outcome S' U' Z
cut_outcome cut (Made half) = Made (cut_half cut half)
cut_outcome cut Waits = Waits
cut_outcome cut (Refused reason) = Refused reason

-- In a world of which this holds, each record becomes the same to the others' eyes
pub record Commutes {S U S' U' R Z : Type 0} (nodes : Nodes S R U Z) (others : Nodes S' R U' Z) (cut : Cut S U S' U')
    (holds : World S U → List R → List R → Type 0) : Type 0 where
  pub of_a : (w : World S U) (made_a made_b : List R) (r : R) → holds w made_a made_b →
      advance others.node_a (cut_half cut w.a) (cut_half cut w.b) r ≡ cut_outcome cut (advance nodes.node_a w.a w.b r)
  pub of_b : (w : World S U) (made_a made_b : List R) (r : R) → holds w made_a made_b →
      advance others.node_b (cut_half cut w.b) (cut_half cut w.a) r ≡ cut_outcome cut (advance nodes.node_b w.b w.a r)

-- The run of the others is the cut of a run of the nodes, in whose end the property holds
pub record ComesOf {S U S' U' R Z : Type 0} (nodes : Nodes S R U Z) (cut : Cut S U S' U') (holds : World S U → List R → List R → Type 0)
    (w : World S U) (made_a made_b xs ys : List R) (seen : World S' U') : Type 0 where
  pub end : World S U
  pub run : Run nodes w xs ys end
  pub is_cut : seen ≡ cut_world cut end
  pub holds_there : holds end (made_a ++ xs) (made_b ++ ys)
