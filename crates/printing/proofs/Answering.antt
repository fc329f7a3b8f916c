-- What can be said of want of memory, which is answered where there is no memory for the text of an answer; and what is told of a fault.
use Rattle.std.proofs.Common.{◌≡◌, ℕ, List, Option, Some, None, Err, inl, inr}
use Rattle.capture.specs.Faulty.{CountsReads}
use Rattle.wire_base.specs.declared.side.Side.TheVariants.{A, B}
use Rattle.dna_node.specs.Kind.{NodeKind}
use Rattle.pair_judge.specs.declared.fault.JudgeFault.{JudgeFault}
use Rattle.pair_judge.specs.declared.fault.JudgeFault.TheVariants.{Capture, OutOfMemory}
use Rattle.pair_judge.specs.declared.fault.TextFault.TheVariants.{Departs, Read}
use Rattle.pair_judge.specs.declared.verdict.Verdict.{Verdict}
use Rattle.pair_judge.specs.Faulty.{is_failed_read_of}
use Rattle.pair_judge.specs.Judged.{IfTold, IsAcceptance, IsAnswer, IsExact}
use Rattle.printing.specs.Printed.{Checks, Moved, TellsFault}

module _ (nodes : NodeKind) where
  no_text : (text_a text_b : Option (List ℕ)) → IfTold text_a text_b (λ bytes_a bytes_b. IsExact nodes bytes_a bytes_b (Err OutOfMemory))
  no_text None text_b = tt
  no_text (Some bytes_a) None = tt
  no_text (Some bytes_a) (Some bytes_b) = λ head_a head_b of_a of_b is_a is_b run. tt

  nothing_accepted : (text_a text_b : Option (List ℕ)) →
      IfTold text_a text_b (λ bytes_a bytes_b. IsAcceptance nodes bytes_a bytes_b (Err OutOfMemory))
  nothing_accepted None text_b = tt
  nothing_accepted (Some bytes_a) None = tt
  nothing_accepted (Some bytes_a) (Some bytes_b) = tt

  pub without_memory : (text_a text_b : Option (List ℕ)) → IsAnswer nodes text_a text_b (Err OutOfMemory)
  without_memory text_a text_b = record {
    exact = no_text text_a text_b;
    accepted = nothing_accepted text_a text_b;
    refused = tt;
    faulty = tt;
  }

  module _ (text : Verdict → List ℕ) where
    -- no text was put together for want of memory
    pub checks_nothing : (a b out err : Moved) (status : ℕ) → CountsReads (is_failed_read_of {X = Verdict} A (Err OutOfMemory)) a.old.faults
        a.new.faults →
        CountsReads (is_failed_read_of {X = Verdict} B (Err OutOfMemory)) b.old.faults b.new.faults → TellsFault err OutOfMemory status →
        out.new ≡ out.old → Checks nodes text a b out err status
    checks_nothing a b out err status reads_a reads_b told same = record {
      answer = Err OutOfMemory;
      judged = without_memory a.old.bytes b.old.bytes;
      reads_a = reads_a;
      reads_b = reads_b;
      printed = (told, same);
    }

    pub checks_fault : (a b out err : Moved) (status : ℕ) (fault : JudgeFault) → IsAnswer nodes a.old.bytes b.old.bytes (Err fault) →
        CountsReads (is_failed_read_of {X = Verdict} A (Err fault)) a.old.faults a.new.faults →
        CountsReads (is_failed_read_of {X = Verdict} B (Err fault)) b.old.faults b.new.faults → TellsFault err fault status → out.new ≡ out.old →
        Checks nodes text a b out err status
    checks_fault a b out err status (Capture side (Departs kind line)) judged reads_a reads_b (inl told) same = record {
      answer = Err (Capture side (Departs kind line));
      judged = judged;
      reads_a = reads_a;
      reads_b = reads_b;
      printed = (told, same);
    }
    checks_fault a b out err status (Capture side (Departs kind line)) judged reads_a reads_b (inr told) same =
        checks_nothing a b out err status reads_a reads_b told same
    checks_fault a b out err status (Capture side Read) judged reads_a reads_b told same = record {
      answer = Err (Capture side Read);
      judged = judged;
      reads_a = reads_a;
      reads_b = reads_b;
      printed = (told, same);
    }
    checks_fault a b out err status OutOfMemory judged reads_a reads_b told same = checks_nothing a b out err status reads_a reads_b told same
