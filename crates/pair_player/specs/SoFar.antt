-- A text of a script as far as it was read.
use Rattle.std.specs.Prelude.{ℕ, List, [], ◌∷◌, ◌++◌, Option}
use Rattle.capture.specs.Listed.{IsListSoFar}
use Rattle.dna_play.specs.Script.{ScriptStep, Script}
use Rattle.dna_play.specs.ScriptText.{script_form, listed}

-- The text begins with this script, and goes on with what is to come, where the reader tells its bytes.
abbrev pub IsReadSoFar : (text : Option (List ℕ)) (script : Script) (come : Option (List ℕ)) → Type 0
IsReadSoFar text script come = IsListSoFar script_form text (listed script) come

-- the script of a head alone
abbrev pub no_steps : (node_a node_b : ℕ) → Script
no_steps node_a node_b = record { node_a = node_a; node_b = node_b; steps = [] }

-- the same script with one step more
abbrev pub with_step : Script → ScriptStep → Script
with_step script step = record script { steps = script.steps ++ step ∷ [] }
