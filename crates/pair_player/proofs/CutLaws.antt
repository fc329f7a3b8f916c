-- Where a read failed: what was played then is of whole lines, and a piece of the next may have come.
use Rattle.std.proofs.Common.{ℕ, ◌+◌, inl, inr, List, Option, Result, Err, sym, subst}
use Rattle.capture.specs.declared.fault.CaptureFault.{CaptureFault}
use Rattle.capture.specs.declared.fault.CaptureFault.TheVariants as of_script
use Rattle.capture.specs.Faulty.{is_read_fault}
use Rattle.capture.specs.Lines.{IsCutBehind}
use Rattle.capture.specs.Reader.{FaultShows, WhereReadFails}
use Rattle.capture.specs.inner.Outlets.{Outlet, outlet}
use Rattle.dna_play.specs.ScriptText.{StepDeparts}
use Rattle.player_end.specs.declared.fault.StepFault.{StepFault}
use Rattle.player_end.specs.declared.fault.StepFault.TheVariants as stops
use Rattle.pair_player.specs.declared.fault.PlayFault.{PlayFault}
use Rattle.pair_player.specs.declared.played.Played.{Played}
use Rattle.pair_player.specs.inner.Beginning.{fault_at, fault_of}
use Rattle.pair_player.specs.inner.Waiting.{EndsAll}
use Rattle.pair_player.specs.Playing.{Held, PlaysWholeLines, held}
use Rattle.pair_player.proofs.PlayLaws.{IsUnderWay, Place, written}

-- the writers have what was meant, or one failed
pub lines_on : (text left : Option (List ℕ)) (old new : Held) (meant answer : Result Played PlayFault) (was now : Outlet × Outlet) →
    PlaysWholeLines text left old new meant → EndsAll meant was now answer
    → PlaysWholeLines text left old new answer
lines_on text left old new meant answer was now is (inl all) = subst (PlaysWholeLines text left old new) (sym all.4) is
lines_on text left old new meant answer was now is (inr some) = subst (PlaysWholeLines text left old new) (sym some.2) tt

-- no step's fault is a failed read
pub lines_stopped : (text left : Option (List ℕ)) (old new : Held) (line : ℕ) (fault : StepFault) →
    PlaysWholeLines text left old new (Err (fault_at line fault))
lines_stopped text left old new line stops.BadStep = tt
lines_stopped text left old new line fault = tt

module _ (text left : Option (List ℕ)) (old : Held) (p : Place) (h : IsUnderWay text old p) where
  -- its next line is not known
  pub lines_at_fault : (fault : CaptureFault) (answer : Result Played PlayFault) (n m : ℕ) (new : Outlet × Outlet) →
      FaultShows (StepDeparts p.lines.items) (p.lines.items + 2) p.come fault → WhereReadFails (is_read_fault fault) (IsCutBehind p.come left)
      → EndsAll (Err (fault_of fault)) (outlet p.a p.now.a n, outlet p.b p.now.b m) new answer →
      PlaysWholeLines text left old (held new.0.held new.1.held) answer
  lines_at_fault fault answer n m new shows cut (inr some) = subst (PlaysWholeLines text left old (held new.0.held new.1.held)) (sym some.2) tt
  lines_at_fault fault answer n m new shows cut (inl all) =
      subst (PlaysWholeLines text left old (held new.0.held new.1.held)) (sym all.4) (by_fault fault shows cut)
    where
      by_fault : (fault : CaptureFault) → FaultShows (StepDeparts p.lines.items) (p.lines.items + 2) p.come fault →
          WhereReadFails (is_read_fault fault) (IsCutBehind p.come left)
          → PlaysWholeLines text left old (held new.0.held new.1.held) (Err (fault_of fault))
      by_fault (of_script.Departs kind line) shows cut = tt
      by_fault of_script.Read shows cut = inr (
        h.reached,
        h.played,
        written text old p h (held new.0.held new.1.held) new.0.text new.1.text all.0.over all.1.over all.2 all.3,
        subst (λ (x : Option (List ℕ)). IsCutBehind x left) (sym h.come_is) cut,
      )
      by_fault of_script.OutOfMemory shows cut = tt
      by_fault of_script.Failed shows cut = absurd shows
