-- Steps without a record: a timer of the station, and a unit that is lost.
use Rattle.dna_play.proofs.Prelude.{◌≡◌, Some, refl, sym, ◌∙◌, le-leb, MAX_HINT, State, Halted, Istrt, Astrt, Timer, Lose, Debt, timer_debt}
use Rattle.dna_play.proofs.Prelude.{OwesStrt, OwesStack, IsHalted, timed, times_out, with_next, loses}
use Rattle.dna_station.specs.declared.state.State.TheVariants as states
use Rattle.dna_play.proofs.{Played.Steps.Nothing, Ends.Stage.timer_stage, Ends.Stage.passing_stage, Stored.Now.StoredNow}
use Rattle.dna_play.proofs.Ends.TrueEnd.{End, variables_of, station_of, owing_more, passing, stored, coming}
use Rattle.dna_play.proofs.Stored.Right.{IsRight, kept_right, never_full, unit_right, next_is}

module _ (own other : End) (now : StoredNow own other) where
  pub timer_right : IsRight own other Timer (times_out (stored own))
  timer_right = go (station_of own.half).state refl
    where
      owes : (debt : Debt) → timer_debt (variables_of own.half).state (variables_of own.half) ≡ Some debt → ¬ (IsHalted (stored own)) →
          IsRight own other Timer (timed (stored own) (Some debt))
      owes debt is on = kept_right own other Timer (owing_more (Some debt) own) Nothing refl refl (timer_stage own now.stage debt is) on
          (never_full own other Timer refl)

      go : (state : State) → (station_of own.half).state ≡ state →
          IsRight own other Timer (timed (stored own) (timer_debt state (variables_of own.half)))
      go Halted is = λ asks. asks is
      go Istrt is = owes OwesStrt (rw is refl) (λ halted. let e = sym is ∙ halted in cc)
      go Astrt is = owes OwesStack (rw is refl) (λ halted. let e = sym is ∙ halted in cc)
      go states.Running is = owes _ (rw is refl) (λ halted. let e = sym is ∙ halted in cc)

  pub lose_right : IsRight own other Lose (with_next (coming own other.half) (λ bytes. loses (stored own)))
  lose_right = unit_right own other now Lose (λ bytes. loses (stored own)) (λ asks. asks) (λ unit there.
      rw (le-leb own.passed MAX_HINT now.few) (kept_right own other Lose (passing own) Nothing refl refl (passing_stage own now.stage)
      (unit.bytes, next_is own other unit there) (never_full own other Lose refl)))
