-- What an observer was told, where the judge gives its verdict.
use Rattle.std.specs.Prelude.{◌≡◌, ℕ, List, ◌++◌, length, Option, Result, Ok, Err}
use Rattle.std.specs.Option.{option_to_list}
use Rattle.wire_base.specs.declared.side.Side.TheVariants.{A, B}
use Rattle.capture.specs.SoFar.{ReadSoFar, IsReadSoFar}
use Rattle.dna_node.specs.Kind.{NodeKind, kind_pair, kind_start}
use Rattle.pair_judge.specs.Ends.{ShownEnds}
use Rattle.pair_judge.specs.Heads.{head_of}
use Rattle.pair_judge.specs.Order.{MadeRecord, IsRunInOrder, records_of}

-- an answer of which only a part is looked at
abbrev pub only : {X Y E : Type 0} → Result X E → (X → Y) → Result Y E
only (Ok given) part = Ok (part given)
only (Err fault) part = Err fault

-- So much was read of the two texts. All of it but the records ahead was made, in an order in which two nodes of this kind can make it, and in this
-- order the observer was told of it.
pub record WasTold (nodes : NodeKind) (text_a text_b : Option (List ℕ)) (ends : ShownEnds) (told : List MadeRecord → Type 0) : Type 0 where
  pub order : List MadeRecord
  pub is_told : told order
  pub read_a : ReadSoFar
  pub read_b : ReadSoFar
  pub from_a : IsReadSoFar text_a read_a
  pub from_b : IsReadSoFar text_b read_b
  pub all_a : read_a.records ≡ records_of A order ++ option_to_list ends.a.ahead
  pub all_b : read_b.records ≡ records_of B order ++ option_to_list ends.b.ahead
  pub records_a : ends.a.records ≡ length (records_of A order)
  pub records_b : ends.b.records ≡ length (records_of B order)
  pub is_run : IsRunInOrder (kind_pair nodes) (kind_start nodes (head_of read_a) (head_of read_b)) order
