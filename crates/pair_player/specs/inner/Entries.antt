-- A step in two parts: what its line says beside its noise or message, and these bytes.
use Rattle.std.specs.Prelude.{ℕ, List, take, Option, Some, None, Result, Ok, Err}
use Rattle.capture.specs.declared.fault.Departure.{Departure}
use Rattle.capture.specs.declared.fault.Departure.TheVariants.{Syntax}
use Rattle.capture.specs.Reading.{◌>>=◌, bytes_at}
use Rattle.dna_play.specs.Script.{StepValue, ScriptStep}
use Rattle.dna_play.specs.ScriptText.{most_bytes}
use Rattle.pair_player.specs.Step.{line_with, plain, step_with}
use Rattle.pair_player.specs.declared.step.LineEntry.{LineEntry}
use Rattle.pair_player.specs.declared.step.Step.{Step}

-- what an entry and the text of its BYTES, if there is one, are read as
abbrev pub told : Option (Step × Option (List ℕ)) → Result StepValue Departure
told None = Err Syntax
told (Some (entry, None)) = Ok (plain entry)
told (Some (entry, Some text)) = bytes_at (most_bytes (plain entry)) text >>= λ message. Ok (step_with entry message)

-- the step in two parts, its message at the front of the room
abbrev pub parted : {E : Type 0} → List ℕ → Result (LineEntry × ℕ) E → Result ScriptStep E
parted room (Ok (line, len)) = Ok (line_with line (take len room))
parted room (Err fault) = Err fault
