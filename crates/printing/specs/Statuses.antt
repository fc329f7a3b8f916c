-- The status of an answer whose text no contract tells.
use Rattle.std.specs.Prelude.{◌≡◌, ℕ, ◌⊎◌, List, Option, Ok, Err}
use Rattle.dna_node.specs.Kind.{NodeKind}
use Rattle.pair_judge.specs.Judged.{Answer, IsAnswer}
use Rattle.printing.specs.Printed.{fault_status, verdict_status}

-- it is the one that was meant; or 3, where a write failed or there was no memory for the text
abbrev pub EndsWith : (meant status : ℕ) → Type 0
EndsWith meant status = (status ≡ meant) ⊎ (status ≡ 3)

abbrev pub answer_status : Answer → ℕ
answer_status (Ok verdict) = verdict_status verdict
answer_status (Err fault) = fault_status fault

-- It is that of an answer of which all is true that the judge's contract says of its own: of what the two readers had left
pub record EndsAsJudged (nodes : NodeKind) (text_a text_b : Option (List ℕ)) (status : ℕ) : Type 0 where
  pub answer : Answer
  pub judged : IsAnswer nodes text_a text_b answer
  pub ends : EndsWith (answer_status answer) status
