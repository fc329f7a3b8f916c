-- What can be said of want of memory, which is answered where there is no memory for the text of a verdict on one end; and what is told of a fault.
use Rattle.std.proofs.Common.{◌≡◌, ℕ, List, Option, Some, None, Err, inl, inr}
use Rattle.std.specs.Option.{IfSome}
use Rattle.capture.specs.declared.fault.CaptureFault.{CaptureFault}
use Rattle.capture.specs.declared.fault.CaptureFault.TheVariants.{Departs, Read, OutOfMemory, Failed}
use Rattle.capture.specs.Faulty.{CountsReads, is_failed_read}
use Rattle.pair_judge.specs.declared.end_verdict.EndVerdict.{EndVerdict}
use Rattle.pair_judge.specs.EndJudged.{IsExactAlone, IsJudgedAlone, PassesWhole}
use Rattle.pair_judge.specs.EndKind.{EndKind}
use Rattle.printing.specs.Printed.{Moved}
use Rattle.printing.specs.PrintedAlone.{ChecksEnd, TellsEndFault}

module _ (end : EndKind) where
  no_pass : (text : Option (List ℕ)) → IfSome text (λ bytes. PassesWhole end bytes (Err OutOfMemory))
  no_pass None = tt
  no_pass (Some bytes) = tt

  no_text : (text : Option (List ℕ)) → IfSome text (λ bytes. IsExactAlone end bytes (Err OutOfMemory))
  no_text None = tt
  no_text (Some bytes) = λ head records node is_text passes. tt

  pub without_memory : (text : Option (List ℕ)) → IsJudgedAlone end text (Err OutOfMemory)
  without_memory text = record { says = tt; passed = no_pass text; exact = no_text text }

  module _ (text : EndVerdict → List ℕ) (a out err : Moved) (status : ℕ) where
    -- no text was put together for want of memory
    pub checks_nothing : CountsReads (is_failed_read {A = EndVerdict} (Err OutOfMemory)) a.old.faults a.new.faults →
        TellsEndFault err OutOfMemory status → out.new ≡ out.old → ChecksEnd end text a out err status
    checks_nothing reads told same = record {
      answer = Err OutOfMemory;
      judged = without_memory a.old.bytes;
      reads = reads;
      printed = (told, same);
    }

    pub checks_fault : (fault : CaptureFault) → IsJudgedAlone end a.old.bytes (Err fault) →
        CountsReads (is_failed_read {A = EndVerdict} (Err fault)) a.old.faults a.new.faults → TellsEndFault err fault status → out.new ≡ out.old →
        ChecksEnd end text a out err status
    checks_fault (Departs kind line) judged reads (inl told) same =
        record { answer = Err (Departs kind line); judged = judged; reads = reads; printed = (told, same) }
    checks_fault (Departs kind line) judged reads (inr told) same = checks_nothing reads told same
    checks_fault Read judged reads told same = record { answer = Err Read; judged = judged; reads = reads; printed = (told, same) }
    checks_fault OutOfMemory judged reads told same = checks_nothing reads told same
    checks_fault Failed judged reads told same = absurd told
