-- How a script ends to be played: all of it was read, its next line is not known, or its next step isn't made.
use Rattle.std.proofs.Common.{◌≡◌, ℕ, ◌+◌, inl, inr, List, length, Option, Some, None, Result, Ok, Err, refl}
use Rattle.std.proofs.Common.{sym, ap, subst, ◌∙◌}
use Rattle.std.specs.Option.{IfSome}
use Rattle.std.specs.Io.KnownBytes.{Consumes, IsAtEnd}
use Rattle.capture.specs.ListReader.{Advances, ListState}
use Rattle.dna_play.specs.Script.{ScriptStep}
use Rattle.dna_play.specs.ScriptText.{StepDeparts, script_form, script_line}
use Rattle.dna_play.specs.StoredPlayed.{StoredPair}
use Rattle.dna_play.specs.StoredPlayed.{stored_plays_step}
use Rattle.dna_play.specs.Stop.{Stop, BadStep, Full}
use Rattle.pair_player.specs.declared.fault.PlayFault.{PlayFault}
use Rattle.pair_player.specs.declared.fault.PlayFault.TheVariants as faults
use Rattle.capture.specs.declared.fault.CaptureFault.{CaptureFault}
use Rattle.capture.specs.declared.fault.CaptureFault.TheVariants as of_script
use Rattle.player_end.specs.declared.fault.StepFault.{StepFault}
use Rattle.player_end.specs.declared.fault.StepFault.TheVariants as stops
use Rattle.pair_player.specs.declared.played.Played.{Played}
use Rattle.pair_player.specs.inner.Beginning.{fault_of, fault_at}
use Rattle.pair_player.specs.Playing.{DepartsBehind, EndsBehind, HasPlayed, HasWritten, Held, Plays, Reached, RefusedBehind}
use Rattle.pair_player.specs.Playing.{StopsBehind, held}
use Rattle.capture.specs.Reader.{FaultShows}
use Rattle.player_end.specs.Stepping.{StopMeans}
use Rattle.pair_player.specs.inner.Making.{Standing, StopsStep, standing}
use Rattle.pair_player.specs.inner.Waiting.{EndsAll}
use Rattle.capture.specs.inner.Outlets.{Outlet, outlet}
use Rattle.pair_player.proofs.PlayLaws.{IsUnderWay, Place, fails, few_steps, written}

-- what the answer says of what was reached
abbrev pub Meant : Reached → Result Played PlayFault → Type 0
Meant r (Ok answer) = EndsBehind answer.steps r
Meant r (Err (faults.Departs kind line)) = DepartsBehind kind line r
Meant r (Err (faults.BadStep line)) = StopsBehind BadStep line r
Meant r (Err (faults.Full line)) = StopsBehind Full line r
Meant r (Err faults.Read) = Unit {0}
Meant r (Err (faults.Write side)) = ⊥
Meant r (Err faults.OutOfMemory) = RefusedBehind r

plays_meant : (text : Option (List ℕ)) (old new : Held) (r : Reached) (answer : Result Played PlayFault) → HasPlayed text r → HasWritten old new r →
    Meant r answer → Plays text old new answer
plays_meant text old new r (Ok answer) h k m = (r, h, k, m)
plays_meant text old new r (Err (faults.Departs kind line)) h k m = inr (r, h, k, m)
plays_meant text old new r (Err (faults.BadStep line)) h k m = (r, h, k, m)
plays_meant text old new r (Err (faults.Full line)) h k m = (r, h, k, m)
plays_meant text old new r (Err faults.Read) h k m = inr (r, h, k, tt)
plays_meant text old new r (Err (faults.Write side)) h k m = absurd m
plays_meant text old new r (Err faults.OutOfMemory) h k m = inr (r, h, k, m)

module _ (text : Option (List ℕ)) (old : Held) (p : Place) (h : IsUnderWay text old p) where
  pub ended : (meant answer : Result Played PlayFault) (n m : ℕ) (new : Outlet × Outlet) → Meant h.reached meant →
      EndsAll meant (outlet p.a p.now.a n, outlet p.b p.now.b m) new answer
      → Plays text old (held new.0.held new.1.held) answer
  ended meant answer n m new is (inl all) =
      subst (Plays text old (held new.0.held new.1.held)) (sym all.4)
      (plays_meant text old (held new.0.held new.1.held) h.reached meant h.played
      (written text old p h (held new.0.held new.1.held) new.0.text new.1.text all.0.over all.1.over all.2 all.3) is)
  ended meant answer n m new is (inr some) =
      subst (Plays text old (held new.0.held new.1.held)) (sym some.2) (fails text old p h some.0 n m new some.1)

  -- the script has ended
  pub at_end : (lines : ListState) (after : Option (List ℕ)) → Advances script_form p.lines lines p.come after (Ok None) →
      Meant h.reached (Ok (record { steps = p.steps }))
  at_end lines after advances = record { end = subst IsAtEnd (sym h.come_is) advances.0; steps_are = sym h.count }

  -- its next line is not known
  pub at_fault : (lines : ListState) (after : Option (List ℕ)) (fault : CaptureFault) →
      Advances script_form p.lines lines p.come after (Err fault) → (fault ≡ of_script.OutOfMemory → ⊥) → Meant h.reached (Err (fault_of fault))
  at_fault lines after fault advances memory = by_fault fault advances.0 memory
    where
      same : p.lines.items ≡ length h.reached.script.steps
      same = h.counted ∙ sym h.count

      by_fault : (fault : CaptureFault) → FaultShows (StepDeparts p.lines.items) (p.lines.items + 2) p.come fault →
          (fault ≡ of_script.OutOfMemory → ⊥) → Meant h.reached (Err (fault_of fault))
      by_fault (of_script.Departs kind line) shows memory = record {
        departs = subst (λ (x : Option (List ℕ)). IfSome x (StepDeparts (length h.reached.script.steps) kind)) (sym h.come_is)
            (subst (λ (n : ℕ). IfSome p.come (StepDeparts n kind)) same shows.1);
        line_is = shows.0 ∙ ap (λ n. n + 2) same;
      }
      by_fault of_script.Read shows memory = tt
      by_fault of_script.OutOfMemory shows memory = absurd (memory refl)
      by_fault of_script.Failed shows memory = absurd shows

  -- its next step isn't made
  at_stop : (step : ScriptStep) (lines : ListState) (after : Option (List ℕ)) (fault : StepFault) →
      Advances script_form p.lines lines p.come after (Ok (Some step))
      → StopMeans (stored_plays_step p.pair step) fault → Meant h.reached (Err (fault_at (p.steps + 2) fault))
  at_stop step lines after fault advances means = by_fault fault means
    where
      behind : (why : Stop) → stored_plays_step p.pair step ≡ Err why → StopsBehind why (p.steps + 2) h.reached
      behind why e = record {
        step = step;
        fits = advances.0;
        few = few_steps text old p h advances.1;
        later = after;
        spelled = subst (λ (x : Option (List ℕ)). Consumes x after (script_line step)) (sym h.come_is) advances.4;
        stops = ap (λ (x : StoredPair). stored_plays_step x step) h.pair_is ∙ e;
        line_is = ap (λ n. n + 2) (sym h.count);
      }

      by_fault : (fault : StepFault) → StopMeans (stored_plays_step p.pair step) fault → Meant h.reached (Err (fault_at (p.steps + 2) fault))
      by_fault stops.BadStep e = behind BadStep e
      by_fault stops.Full e = behind Full e
      by_fault stops.OutOfMemory e = record {
        step = step;
        fits = advances.0;
        few = few_steps text old p h advances.1;
        later = after;
        spelled = subst (λ (x : Option (List ℕ)). Consumes x after (script_line step)) (sym h.come_is) advances.4;
      }

  -- the same where the lines that wait are seen behind it
  pub stopped : (step : ScriptStep) (lines : ListState) (after : Option (List ℕ)) (at : Standing) (fault : StepFault)
      (answer : Result Played PlayFault) (n m : ℕ) (new : Outlet × Outlet)
      → Advances script_form p.lines lines p.come after (Ok (Some step)) → StopsStep step (standing p.pair p.a p.b p.three p.is_begun) at fault →
      EndsAll (Err (fault_at (p.steps + 2) fault)) (outlet at.a p.now.a n, outlet at.b p.now.b m) new answer
      → Plays text old (held new.0.held new.1.held) answer
  stopped step lines after at fault answer n m new advances stops ends =
      ended (Err (fault_at (p.steps + 2) fault)) answer n m new (at_stop step lines after fault advances stops.means)
      (subst (λ (x : List ℕ). EndsAll (Err (fault_at (p.steps + 2) fault)) (outlet p.a p.now.a n, outlet x p.now.b m) new answer) stops.b
      (subst (λ (x : List ℕ). EndsAll (Err (fault_at (p.steps + 2) fault)) (outlet x p.now.a n, outlet at.b p.now.b m) new answer) stops.a ends))
