-- What one step makes of the ends and of the lines that wait.
use Rattle.std.specs.Prelude.{◌≡◌, ℕ, Bool, true, false, ◌&&◌, ◌||◌, not, List, ◌++◌, Result, Ok, Err}
use Rattle.wire_base.specs.declared.side.Side.{Side}
use Rattle.wire_base.specs.declared.side.Side.TheVariants.{A, B}
use Rattle.capture.specs.declared.hint.HintForm.TheVariants.{Number}
use Rattle.capture.specs.declared.format.Format.TheVariants.{One, Three}
use Rattle.capture.specs.Text.{head_line, record_lines}
use Rattle.dna_play.specs.Script.{ScriptStep, is_of_three}
use Rattle.dna_play.specs.StoredPlay.{StoredStepped}
use Rattle.dna_play.specs.StoredPlayed.{StoredPair, pair_after, stored_plays_step}
use Rattle.player_end.specs.declared.fault.StepFault.{StepFault}
use Rattle.player_end.specs.Stepping.{StopMeans}

-- both ends, the lines of both captures that are not written yet, whether these are in format 3, and whether a head was written
pub record Standing : Type 0 where
  pub pair : StoredPair
  pub a : List ℕ
  pub b : List ℕ
  pub three : Bool
  pub is_begun : Bool

abbrev pub standing : StoredPair → List ℕ → List ℕ → (three is_begun : Bool) → Standing
standing pair a b three is_begun = record { pair = pair; a = a; b = b; three = three; is_begun = is_begun }

-- the lines of one side come after those that waited, and the other side's stay
abbrev pub PutsLines : Side → (old new : List ℕ × List ℕ) → List ℕ → Type 0
PutsLines A old new lines = (new.0 ≡ old.0 ++ lines) × (new.1 ≡ old.1)
PutsLines B old new lines = (new.0 ≡ old.0) × (new.1 ≡ old.1 ++ lines)

-- a text with a head of format 1 has one of format 3 then, where this step is the first that needs it
abbrev pub HasHead : (first : Bool) → (old new : List ℕ) → Type 0
HasHead true old new = (own peer : ℕ) (lines : List ℕ) → old ≡ head_line One own peer ++ lines → new ≡ head_line Three own peer ++ lines
HasHead false old new = new ≡ old

-- the step is made, and the lines of its records wait
pub record Steps (step : ScriptStep) (old new : Standing) : Type 0 where
  pub made : StoredStepped
  pub makes : stored_plays_step old.pair step ≡ Ok made
  pub pair : new.pair ≡ pair_after step.side step.step made old.pair
  pub put : List ℕ × List ℕ
  pub puts : PutsLines step.side (old.a, old.b) put (record_lines Number made.records)
  pub head_a : HasHead (not old.three && is_of_three step.step) put.0 new.a
  pub head_b : HasHead (not old.three && is_of_three step.step) put.1 new.b
  pub three : new.three ≡ (old.three || is_of_three step.step)
  pub is_begun : new.is_begun ≡ old.is_begun

-- it isn't made, for this reason, and no line is put
pub record StopsStep (step : ScriptStep) (old new : Standing) (fault : StepFault) : Type 0 where
  pub means : StopMeans (stored_plays_step old.pair step) fault
  pub a : new.a ≡ old.a
  pub b : new.b ≡ old.b

abbrev pub StepsOrStops : ScriptStep → Standing → Standing → Result (Unit {0}) StepFault → Type 0
StepsOrStops step old new (Ok x) = Steps step old new
StepsOrStops step old new (Err fault) = StopsStep step old new fault
