-- What a step of the code says with the bytes beside it, without where these lie in memory.
use Rattle.std.specs.Prelude.{ℕ, List, []}
use Rattle.dna_play.specs.Script.{StepValue, ScriptStep, Start, Halt, Boot, Timer, Send, Deliver, Refuse, Drop, Lose, Damage, Noise, Open, Accept}
use Rattle.dna_play.specs.Script.{Reject, In, Close, Abort, Retry}
use Rattle.pair_player.specs.declared.step.LineEntry.{LineEntry}
use Rattle.pair_player.specs.declared.step.Step.{Step}
use Rattle.pair_player.specs.declared.step.Step.TheVariants as steps
use Rattle.pair_player.specs.declared.step.ScriptStep as lines

abbrev pub step_with : Step → List ℕ → StepValue
step_with steps.Start bytes = Start
step_with steps.Halt bytes = Halt
step_with steps.Boot bytes = Boot
step_with steps.Timer bytes = Timer
step_with steps.Send bytes = Send
step_with steps.Deliver bytes = Deliver
step_with steps.Refuse bytes = Refuse
step_with steps.Drop bytes = Drop
step_with steps.Lose bytes = Lose
step_with (steps.Damage place value) bytes = Damage place value
step_with steps.Noise bytes = Noise bytes
step_with steps.Open bytes = Open
step_with (steps.Accept partner) bytes = Accept partner
step_with (steps.Reject partner) bytes = Reject partner
step_with (steps.In link) bytes = In link bytes
step_with (steps.Close link) bytes = Close link
step_with (steps.Abort link) bytes = Abort link
step_with (steps.Retry link) bytes = Retry link

-- with no bytes
abbrev pub plain : Step → StepValue
plain step = step_with step []

-- a line of these two parts
abbrev pub line_with : LineEntry → List ℕ → ScriptStep
line_with line message = record { side = line.side; step = step_with line.step message }

abbrev pub view_of_line : lines.ScriptStep → ScriptStep
view_of_line line = record { side = line.side; step = step_with line.step line.bytes.now }
