-- Why a step of a script can't be made, and how steps are played one after another.
use Rattle.std.specs.Prelude.{ℕ, ◌+◌, List, [], ◌∷◌, Result, Ok, Err}
use Rattle.dna_play.specs.Script.{ScriptStep}

-- it breaks its rule, or all 65,535 link addresses of the end are given
pub data Stop : Type 0 where
  BadStep : Stop
  Full : Stop

-- how many steps were made, what stops the one after them, and all that they made
pub record Stopped (S : Type 0) : Type 0 where
  pub steps : ℕ
  pub stop : Stop
  pub so_far : S

module _ {S : Type 0} where
  abbrev pub if_made : Result S Stop → (S → Result S (Stopped S)) → (Stop → Stopped S) → Result S (Stopped S)
  if_made (Ok so_far) next stopped = next so_far
  if_made (Err stop) next stopped = Err (stopped stop)

  -- each step on what those before it made, by what plays one
  abbrev pub plays_all : (S → ScriptStep → Result S Stop) → (steps : ℕ) → S → List ScriptStep → Result S (Stopped S)
  plays_all plays steps so_far [] = Ok so_far
  plays_all plays steps so_far (step ∷ later) = if_made (plays so_far step) (λ next. plays_all plays (steps + 1) next later)
      (λ stop. record { steps = steps; stop = stop; so_far = so_far })
