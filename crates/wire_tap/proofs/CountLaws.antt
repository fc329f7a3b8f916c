-- How failed calls are counted.
use Rattle.std.proofs.Common.{◌≡◌, ℕ, ◌⊎◌, inl, inr, Bool, true, false, List, Option, Err, subst, ◌∙◌}
use Rattle.wire_base.specs.Tally.{CountedFault}
use Rattle.wire_base.specs.declared.side.Side.{Side}
use Rattle.capture.specs.declared.fault.CaptureFault.{CaptureFault}
use Rattle.capture.specs.declared.fault.CaptureFault.TheVariants as of_text
use Rattle.capture.specs.declared.fault.Departure.{Departure}
use Rattle.capture.specs.Faulty.{CountsReads, is_read_fault}
use Rattle.capture.specs.Reader.{FaultShows}
use Rattle.wire_tap.specs.Tapping.{CountsReadsOf, CountsWritesOf}
use Rattle.wire_tap.specs.declared.fault.TapFault.{TapFault}
use Rattle.wire_tap.specs.declared.fault.TapFault.TheVariants as faults
use Rattle.wire_tap.specs.declared.tapped.Tapped.{Tapped}
use Rattle.wire_tap.specs.inner.Moving.{fault_of, is_failed_fault}

module _ (old mid new : ℕ) (same : mid ≡ old) where
  -- at a fault
  pub reads_fault : (fault : TapFault) → CountsReads (is_failed_fault fault) mid new → CountsReadsOf (Err fault) old new
  reads_fault (faults.Departs kind line) counts = counts ∙ same
  reads_fault faults.Read counts = subst (λ (n : ℕ). CountedFault n new) same counts
  reads_fault (faults.Write side) counts = inl (counts ∙ same)
  reads_fault faults.OutOfMemory counts = inl (counts ∙ same)

  -- at whatever came before
  pub reads_any : (failed : Bool) → CountsReads failed mid new → (new ≡ old) ⊎ CountedFault old new
  reads_any true counts = inr (subst (λ (n : ℕ). CountedFault n new) same counts)
  reads_any false counts = inl (counts ∙ same)

  -- at a fault of the text
  pub reads_text : (departs : Departure → List ℕ → Type 0) (number : ℕ) (come : Option (List ℕ)) (fault : CaptureFault) →
      FaultShows departs number come fault → CountsReads (is_read_fault fault) mid new → CountsReadsOf (Err (fault_of fault)) old new
  reads_text departs number come (of_text.Departs kind line) shows counts = counts ∙ same
  reads_text departs number come of_text.Read shows counts = subst (λ (n : ℕ). CountedFault n new) same counts
  reads_text departs number come of_text.OutOfMemory shows counts = inl (counts ∙ same)
  reads_text departs number come of_text.Failed shows counts = absurd shows

-- a writer, at a fault of the text
pub writes_text : (side : Side) (fault : CaptureFault) (old new : ℕ) → new ≡ old → CountsWritesOf {A = Tapped} side (Err (fault_of fault)) old new
writes_text side (of_text.Departs kind line) old new same = same
writes_text side of_text.Read old new same = same
writes_text side of_text.OutOfMemory old new same = same
writes_text side of_text.Failed old new same = same
