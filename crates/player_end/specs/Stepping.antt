-- What a contract says of a step: what it makes of an end, with the text of the lines that its records add; or why it is not made.
use Rattle.std.specs.Prelude.{◌≡◌, ℕ, ◌++◌, List, Option, None, Result, Ok, Err, IsSome}
use Rattle.capture.specs.declared.hint.HintForm.TheVariants.{Number}
use Rattle.capture.specs.Text.{record_lines}
use Rattle.dna_play.specs.Stop.{Stop}
use Rattle.dna_play.specs.Stop as stops
use Rattle.dna_play.specs.NextSent.{choice, link_choice}
use Rattle.dna_play.specs.StoredEnd.{StoredEnd}
use Rattle.dna_play.specs.StoredPlay.{StoredStepped}
use Rattle.player_end.specs.declared.fault.StepFault.{StepFault}
use Rattle.player_end.specs.declared.fault.StepFault.TheVariants.{BadStep, Full, OutOfMemory}

-- the end after a step, the units that it sends, and a text with the lines of its records after it
abbrev pub with_lines : List ℕ → Result StoredStepped Stop → Result (StoredEnd × List (List ℕ) × List ℕ) Stop
with_lines text (Ok made) = Ok (made.end, made.sent, text ++ record_lines Number made.records)
with_lines text (Err stop) = Err stop

-- the step can't be made, for this reason; or memory was refused
abbrev pub StopMeans : {M : Type 0} → Result M Stop → StepFault → Type 0
StopMeans made BadStep = made ≡ Err stops.BadStep
StopMeans made Full = made ≡ Err stops.Full
StopMeans made OutOfMemory = Unit {0}

-- the same of what may be None where a step is bad
abbrev pub Stopped : {M : Type 0} → Option M → StepFault → Type 0
Stopped made BadStep = made ≡ None
Stopped made Full = ⊥
Stopped made OutOfMemory = Unit {0}

-- it has something to send
abbrev pub HasUnit : StoredEnd → Type 0
HasUnit e = IsSome (choice e.station.variables e.station.owed (link_choice e.links.confirms e.links.links))
