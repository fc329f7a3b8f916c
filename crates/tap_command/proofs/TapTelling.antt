-- What is printed of the captures that a tap wrote.
use Rattle.std.proofs.Common.{◌≡◌, ℕ, List, Err, Ok, inl, inr, subst, Result}
use Rattle.capture.specs.Faulty.{CountsReads}
use Rattle.wire_base.specs.declared.side.Side.TheVariants.{A, B}
use Rattle.dna_node.specs.Kind.{NodeKind}
use Rattle.pair_judge.specs.declared.fault.JudgeFault.{JudgeFault}
use Rattle.pair_judge.specs.declared.fault.JudgeFault.TheVariants.{Capture, OutOfMemory}
use Rattle.pair_judge.specs.declared.fault.TextFault.TheVariants.{Departs, Read}
use Rattle.pair_judge.specs.declared.verdict.Verdict.{Verdict}
use Rattle.pair_judge.specs.Faulty.{is_failed_read_of}
use Rattle.pair_judge.specs.Judged.{IsAnswer}
use Rattle.tap_answer.specs.Telling.{telling}
use Rattle.tap_answer.specs.declared.told.Told.{Told}
use Rattle.tap_answer.specs.declared.told.Told.TheVariants.{Accepted, Unexplained, Apart, UnexplainedEnd, TooWide}
use Rattle.printing.specs.Printed.{Moved, TellsFault}
use Rattle.tap_command.specs.declared.tap.Captured.{Captured}
use Rattle.tap_command.specs.declared.tap.RefusedAt.{RefusedAt}
use Rattle.tap_command.specs.PrintedTap.{ChecksTap, IsRefusedAt, Streams}
use Rattle.tap_command.specs.inner.TapParts.{TellsNoMemory, TellsTold, both_streams}
use Rattle.printing.proofs.Answering.{without_memory}

-- what is told looks at both streams alone
pub told_there : (words : List ℕ) (captured : Captured) (s : Streams) (said : Told) (status : ℕ) →
    TellsTold words captured (both_streams s.out s.err) said status → TellsTold words captured s said status
told_there words captured s Accepted status told = told
told_there words captured s (Unexplained passed reason) status told = told
told_there words captured s (Apart passed reason) status told = told
told_there words captured s (UnexplainedEnd reason) status told = told
told_there words captured s (TooWide passed) status told = told

pub told_as : (words : List ℕ) (captured : Captured) (out err : Moved) (status : ℕ) {said told : Told} → said ≡ told →
    TellsTold words captured (both_streams out err) said status → TellsTold words captured (both_streams out err) told status
told_as words captured out err status is = subst (λ (each : Told). TellsTold words captured (both_streams out err) each status) is

module _ (nodes : NodeKind) (text : Verdict → List ℕ) (captured : Captured) (s : Streams) where
  abbrev pub CountsOf : Result Verdict JudgeFault → Type 0
  CountsOf answer = CountsReads (is_failed_read_of A answer) s.a.old.faults s.a.new.faults
      × CountsReads (is_failed_read_of B answer) s.b.old.faults s.b.new.faults

  -- no text was put together for want of memory
  pub tells_nothing : (status : ℕ) → CountsOf (Err OutOfMemory) → TellsNoMemory s.out s.err status → ChecksTap nodes text captured s (Ok status)
  tells_nothing status counts told = record {
    answer = Err OutOfMemory;
    judged = without_memory nodes s.a.old.bytes s.b.old.bytes;
    reads_a = counts.0;
    reads_b = counts.1;
    printed = told;
  }

  -- what is said of a verdict
  pub tells_verdict : (verdict : Verdict) (status : ℕ) → IsAnswer nodes s.a.old.bytes s.b.old.bytes (Ok verdict) → CountsOf (Ok verdict) →
      TellsTold (text verdict) captured s (telling captured.is_apart captured.tapped.ending verdict) status →
      ChecksTap nodes text captured s (Ok status)
  tells_verdict verdict status judged counts (inl told) =
      record { answer = Ok verdict; judged = judged; reads_a = counts.0; reads_b = counts.1; printed = told }
  tells_verdict verdict status judged counts (inr told) = tells_nothing status counts told

  -- the captures are to be cut at a refused record, and nothing was printed
  pub tells_cut : (verdict : Verdict) (refused : RefusedAt) → IsAnswer nodes s.a.old.bytes s.b.old.bytes (Ok verdict) → CountsOf (Ok verdict) →
      IsRefusedAt verdict refused → s.out.new ≡ s.out.old → s.err.new ≡ s.err.old → ChecksTap nodes text captured s (Err refused)
  tells_cut verdict refused judged counts at same_out same_err =
      record { answer = Ok verdict; judged = judged; reads_a = counts.0; reads_b = counts.1; printed = (at, same_out, same_err) }

  -- a fault
  pub tells_fault : (fault : JudgeFault) (status : ℕ) → IsAnswer nodes s.a.old.bytes s.b.old.bytes (Err fault) → CountsOf (Err fault) →
      TellsFault s.err fault status → s.out.new ≡ s.out.old → ChecksTap nodes text captured s (Ok status)
  tells_fault (Capture side (Departs kind line)) status judged counts (inl told) same = record {
    answer = Err (Capture side (Departs kind line));
    judged = judged;
    reads_a = counts.0;
    reads_b = counts.1;
    printed = (told, same);
  }
  tells_fault (Capture side (Departs kind line)) status judged counts (inr told) same = tells_nothing status counts (told, same)
  tells_fault (Capture side Read) status judged counts told same =
      record { answer = Err (Capture side Read); judged = judged; reads_a = counts.0; reads_b = counts.1; printed = (told, same) }
  tells_fault OutOfMemory status judged counts told same = tells_nothing status counts (told, same)
