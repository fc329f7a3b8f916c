-- How the telling of a ladder ends, for the contracts of private functions.
use Rattle.std.specs.Prelude.{◌≡◌, ℕ, List, Result, Ok, Err}
use Rattle.ladder.specs.Drawn.{IsDrawn}
use Rattle.ladder.specs.Ladder.{LadderView}
use Rattle.ladder.specs.declared.rows.Keep.{Keep}
use Rattle.pair_judge.specs.Ends.{ShownEnds}
use Rattle.pair_judge.specs.Judged.{JudgesOrFails}
use Rattle.pair_judge.specs.Order.{MadeRecord}
use Rattle.pair_judge.specs.declared.fault.JudgeFault.{JudgeFault}
use Rattle.drawing.specs.declared.begun.Begun.{Begun}
use Rattle.drawing.specs.declared.drawing.DrawnPair.{DrawnPair}
use Rattle.drawing.specs.Drawing.{IsLadderBy}
use Rattle.drawing.specs.Telling.{WereTold}
use Rattle.drawing.specs.inner.Kept.{Rest}

-- a ladder that was told of this order, all of it or not
abbrev pub IsBegun : Keep → ℕ → Begun → List MadeRecord → Type 0
IsBegun keep rows begun order = (rest : List MadeRecord) × WereTold keep rows begun.ladder rest order × Rest begun.is_all rest

-- by a ladder that was begun, with the same verdict: what comes after the records was told, or not
abbrev pub Ends : ShownEnds → Begun → LadderView → Type 0
Ends ends begun after = (rest : List MadeRecord) → Rest begun.is_all rest → IsLadderBy rest ends.verdict ends begun.ladder after

-- what is drawn of it, with these ends
abbrev pub EndsDrawing : ShownEnds → Begun → Result DrawnPair JudgeFault → Type 0
EndsDrawing ends begun (Ok pair) = (after : LadderView) × (pair.ends ≡ ends) × Ends ends begun after × IsDrawn after.kept after.ended pair.drawn
EndsDrawing ends begun (Err fault) = JudgesOrFails (Err fault)
