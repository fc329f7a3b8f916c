-- The status of the answer on captures that a tap wrote, whose text no contract tells.
use Rattle.std.specs.Prelude.{ℕ, List, Option, Ok, Err}
use Rattle.dna_node.specs.Kind.{NodeKind}
use Rattle.pair_judge.specs.Judged.{Answer, IsAnswer}
use Rattle.tap_answer.specs.Telling.{telling}
use Rattle.tap_answer.specs.declared.told.Told.{Told}
use Rattle.tap_answer.specs.declared.told.Told.TheVariants as says
use Rattle.tap_command.specs.declared.tap.Captured.{Captured}
use Rattle.printing.specs.Printed.{fault_status}
use Rattle.printing.specs.Statuses.{EndsWith}

abbrev pub told_status : Told → ℕ
told_status says.Accepted = 0
told_status (says.Unexplained passed reason) = 1
told_status (says.Apart passed reason) = 1
told_status (says.UnexplainedEnd reason) = 1
told_status (says.TooWide passed) = 2

abbrev pub tap_status : Captured → Answer → ℕ
tap_status captured (Ok verdict) = told_status (telling captured.is_apart captured.tapped.ending verdict)
tap_status captured (Err fault) = fault_status fault

pub record EndsAsTapped (nodes : NodeKind) (captured : Captured) (text_a text_b : Option (List ℕ)) (status : ℕ) : Type 0 where
  pub answer : Answer
  pub judged : IsAnswer nodes text_a text_b answer
  pub ends : EndsWith (tap_status captured answer) status
