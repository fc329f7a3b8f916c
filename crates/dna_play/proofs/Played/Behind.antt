-- Steps behind steps that were made: they play as they do on what those made.
use Rattle.dna_play.proofs.Prelude.{◌≡◌, refl, ℕ, ◌+◌, List, [], ◌∷◌, ◌++◌, length, Result, Ok, Err, ap, ◌∙◌, arith, ScriptStep, Stop, Stopped}
use Rattle.dna_play.proofs.Prelude.{if_made, plays_all}

module _ {S : Type 0} (plays : S → ScriptStep → Result S Stop) where
  -- by what the first of them makes
  by_first : (n : ℕ) (so_far played : S) (steps more : List ScriptStep) (now : Result S Stop) →
      ((next : S) → plays_all plays (n + 1) next steps ≡ Ok played →
      plays_all plays (n + 1) next (steps ++ more) ≡ plays_all plays (n + 1 + length steps) played more) →
      if_made now (λ next. plays_all plays (n + 1) next steps) (λ stop. record { steps = n; stop = stop; so_far = so_far }) ≡ Ok played →
      if_made now (λ next. plays_all plays (n + 1) next (steps ++ more)) (λ stop. record { steps = n; stop = stop; so_far = so_far })
      ≡ plays_all plays (n + 1 + length steps) played more
  by_first n so_far played steps more (Ok next) on e = on next e
  by_first n so_far played steps more (Err stop) on e = absurd cc

  -- where it is played so
  pub next : (n : ℕ) (so_far : S) (step : ScriptStep) (later : List ScriptStep) (result : Result S Stop) → plays so_far step ≡ result →
      plays_all plays n so_far (step ∷ later)
      ≡ if_made result (λ next. plays_all plays (n + 1) next later) (λ stop. record { steps = n; stop = stop; so_far = so_far })
  next n so_far step later result e = rw e refl

  pub same_Ok : (x y : S) → ◌≡◌ {A = Result S (Stopped S)} (Ok x) (Ok y) → x ≡ y
  same_Ok x y e = cc

  pub behind : (n : ℕ) (so_far played : S) (steps more : List ScriptStep) → plays_all plays n so_far steps ≡ Ok played →
      plays_all plays n so_far (steps ++ more) ≡ plays_all plays (n + length steps) played more
  behind n so_far played [] more e =
      let same : n ≡ n + 0 = omega arith in
      ap (λ (x : S). plays_all plays n x more) (same_Ok so_far played e) ∙ ap (λ (m : ℕ). plays_all plays m played more) same
  behind n so_far played (first ∷ steps) more e =
      let same : n + 1 + length steps ≡ n + length (first ∷ steps) = omega arith in
      by_first n so_far played steps more (plays so_far first) (λ next k. behind (n + 1) next played steps more k) e
      ∙ ap (λ (m : ℕ). plays_all plays m played more) same
