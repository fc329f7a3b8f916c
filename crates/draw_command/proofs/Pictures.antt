-- A picture of two captures, and what is answered of them.
use Rattle.std.proofs.Common.{ℕ, List, Option, Some, None, Ok, Err}
use Rattle.dna_node.specs.Kind.{NodeKind}
use Rattle.wire_base.specs.declared.side.Side.{Side}
use Rattle.ladder.specs.Drawn.{DrawnView}
use Rattle.pair_judge.specs.Judged.{IfTold, IsAcceptance, IsAnswer, IsExact}
use Rattle.pair_judge.specs.declared.fault.JudgeFault.TheVariants.{Capture, OutOfMemory}
use Rattle.pair_judge.specs.declared.fault.TextFault.TheVariants.{Read}
use Rattle.pair_judge.specs.declared.verdict.Verdict.{Verdict}
use Rattle.drawing.specs.Drawing.{IsPicture}
use Rattle.pair_judge.specs.JudgedAs.{nodes_of}
use Rattle.drawing.specs.declared.range.Range.{Range}

pub judged_so : (range : Range) (text_a text_b : Option (List ℕ)) (verdict : Verdict) (drawn : DrawnView)
    → IsPicture range text_a text_b verdict drawn → IsAnswer (nodes_of range.layers) text_a text_b (Ok verdict)
judged_so range text_a text_b verdict drawn picture = picture.judged

read_exact_by : (nodes : NodeKind) (text_a text_b : Option (List ℕ)) (side : Side)
    → IfTold text_a text_b (λ bytes_a bytes_b. IsExact nodes bytes_a bytes_b (Err (Capture side Read)))
read_exact_by nodes None text_b side = tt
read_exact_by nodes (Some bytes_a) None side = tt
read_exact_by nodes (Some bytes_a) (Some bytes_b) side = λ head_a head_b of_a of_b is_a is_b run. tt

read_accepted_by : (nodes : NodeKind) (text_a text_b : Option (List ℕ)) (side : Side)
    → IfTold text_a text_b (λ bytes_a bytes_b. IsAcceptance nodes bytes_a bytes_b (Err (Capture side Read)))
read_accepted_by nodes None text_b side = tt
read_accepted_by nodes (Some bytes_a) None side = tt
read_accepted_by nodes (Some bytes_a) (Some bytes_b) side = tt

-- that a read failed may always be answered
pub failed_read : (nodes : NodeKind) (text_a text_b : Option (List ℕ)) (side : Side) → IsAnswer nodes text_a text_b (Err (Capture side Read))
failed_read nodes text_a text_b side = record {
  exact = read_exact_by nodes text_a text_b side;
  accepted = read_accepted_by nodes text_a text_b side;
  refused = tt;
  faulty = tt;
}

exact_by : (nodes : NodeKind) (text_a text_b : Option (List ℕ))
    → IfTold text_a text_b (λ bytes_a bytes_b. IsExact nodes bytes_a bytes_b (Err OutOfMemory))
exact_by nodes None text_b = tt
exact_by nodes (Some bytes_a) None = tt
exact_by nodes (Some bytes_a) (Some bytes_b) = λ head_a head_b of_a of_b is_a is_b run. tt

accepted_by : (nodes : NodeKind) (text_a text_b : Option (List ℕ))
    → IfTold text_a text_b (λ bytes_a bytes_b. IsAcceptance nodes bytes_a bytes_b (Err OutOfMemory))
accepted_by nodes None text_b = tt
accepted_by nodes (Some bytes_a) None = tt
accepted_by nodes (Some bytes_a) (Some bytes_b) = tt

-- want of memory may always be answered
pub wanting_memory : (nodes : NodeKind) (text_a text_b : Option (List ℕ)) → IsAnswer nodes text_a text_b (Err OutOfMemory)
wanting_memory nodes text_a text_b = record {
  exact = exact_by nodes text_a text_b;
  accepted = accepted_by nodes text_a text_b;
  refused = tt;
  faulty = tt;
}
