-- What `draw` prints, and with which status it ends.
use Rattle.std.specs.Prelude.{◌≡◌, ℕ, List, Option, Result, Ok, Err}
use Rattle.pair_judge.specs.declared.verdict.Verdict.{Verdict}
use Rattle.drawing.specs.declared.fault.DrawFault.{DrawFault}
use Rattle.drawing.specs.declared.fault.DrawFault.TheVariants.{Judge, Write}
use Rattle.drawing.specs.declared.range.Range.{Range}
use Rattle.drawing.specs.Drawing.{Draws, Writing}
use Rattle.pair_judge.specs.Judged.{Answer}
use Rattle.pair_judge.specs.declared.fault.JudgeFault.{JudgeFault}
use Rattle.draw_command.specs.declared.picture.Picture.{Picture}
use Rattle.printing.specs.Printed.{Moved, TellsFault, verdict_status}

abbrev pub writing : Moved → Writing
writing stream = record {
  old = stream.old.bytes;
  new = stream.new.bytes;
  old_faults = stream.old.faults;
  new_faults = stream.new.faults;
}

-- a failed write is told by the status alone
abbrev pub PrintsDrawFault : Moved → DrawFault → ℕ → Type 0
PrintsDrawFault err (Judge fault) status = TellsFault err fault status
PrintsDrawFault err Write status = (err.new ≡ err.old) × (status ≡ 3)

abbrev pub PrintsDrawing : Moved → Result Verdict DrawFault → ℕ → Type 0
PrintsDrawing err (Ok verdict) status = (err.new ≡ err.old) × (status ≡ verdict_status verdict)
PrintsDrawing err (Err fault) status = PrintsDrawFault err fault status

-- The rows are written to standard output, or a fault to standard error.
pub record DrawsRows (range : Range) (texts : Option (List ℕ) × Option (List ℕ)) (out err : Moved) (status : ℕ) : Type 0 where
  pub answer : Result Verdict DrawFault
  pub draws : Draws range texts.0 texts.1 (writing out) answer
  pub printed : PrintsDrawing err answer status

-- what is answered, without the picture
abbrev pub verdict_answered : Result Picture JudgeFault → Answer
verdict_answered (Ok picture) = Ok picture.verdict
verdict_answered (Err fault) = Err fault
