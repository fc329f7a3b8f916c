-- What a pair of captures went through, where the judge gives its verdict.
use Rattle.std.specs.Prelude.{ℕ, List, Option}
use Rattle.wire_base.specs.declared.side.Side.{Side}
use Rattle.wire_base.specs.declared.side.Side.TheVariants.{A, B}
use Rattle.dna_node.specs.Kind.{both_layers}
use Rattle.pair_judge.specs.Ends.{ShownEnds}
use Rattle.pair_judge.specs.Heads.{head_of}
use Rattle.pair_judge.specs.Order.{MadeRecord, records_of}
use Rattle.pair_judge.specs.Watched.{WasTold}
use Rattle.coverage.specs.declared.cover.Cover.{Cover}
use Rattle.coverage.specs.Counts.{AreCounts, rows_of}

-- the counts of a side
abbrev pub side_counts : Side → Cover → List ℕ
side_counts A cover = cover.a.counts.met
side_counts B cover = cover.b.counts.met

-- So much was read of the two texts, and all of it but the records ahead was made, in an order that is a run. The counts of each side are those of
-- the rows that its records went through.
pub record WasCovered (text_a text_b : Option (List ℕ)) (ends : ShownEnds) (cover : Cover) : Type 0 where
  pub made : WasTold both_layers text_a text_b ends (λ (order : List MadeRecord). Unit {0})
  pub of_a : AreCounts (side_counts A cover) (rows_of (head_of made.read_a) (records_of A made.order))
  pub of_b : AreCounts (side_counts B cover) (rows_of (head_of made.read_b) (records_of B made.order))
