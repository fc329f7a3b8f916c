-- What is drawn of two captures, and what is written of it.
use Rattle.std.specs.Prelude.{◌≡◌, ◌⊎◌, ℕ, true, List, [], ◌∷◌, Option, Some, None, Result, Ok, Err}
use Rattle.std.specs.Io.KnownBytes.{Appends}
use Rattle.wire_base.specs.Tally.{AppendsBeginning, CountedFault}
use Rattle.wire_base.specs.declared.side.Side.{Side}
use Rattle.capture_record.specs.Entries.{record_with}
use Rattle.capture_record.specs.declared.entry.Entry.{Entry}
use Rattle.ladder.specs.Drawn.{DrawnView, IsDrawn}
use Rattle.ladder.specs.Ladder.{LadderView, refused}
use Rattle.pair_judge.specs.Ends.{ShownEnds}
use Rattle.pair_judge.specs.Finding.{of_side}
use Rattle.pair_judge.specs.Judged.{IsAnswer}
use Rattle.pair_judge.specs.JudgedAs.{nodes_of}
use Rattle.pair_judge.specs.Order.{MadeRecord}
use Rattle.pair_judge.specs.Reason.{is_of_changed_bytes}
use Rattle.pair_judge.specs.Watched.{WasTold}
use Rattle.pair_judge.specs.declared.reason.Reason.{Reason}
use Rattle.pair_judge.specs.declared.verdict.Verdict.{Verdict}
use Rattle.pair_judge.specs.declared.verdict.Verdict.TheVariants.{Accepted, Refused}
use Rattle.pair_judge.specs.declared.fault.JudgeFault.{JudgeFault}
use Rattle.drawing.specs.declared.drawing.DrawnPair.{DrawnPair}
use Rattle.drawing.specs.declared.fault.DrawFault.{DrawFault}
use Rattle.drawing.specs.declared.fault.DrawFault.TheVariants.{Judge, Write}
use Rattle.drawing.specs.declared.range.Range.{Range}
use Rattle.drawing.specs.Telling.{WereFollowed, WereTold, keep_of}

-- ---- the ladder

-- the record ahead of this side is told as refused for this reason; where none is shown, none is
abbrev pub TellsAhead : Side → Reason → ShownEnds → LadderView → LadderView → Type 0
TellsAhead side reason ends before after =
    ((entry : Entry) × (bytes : List ℕ) × ((of_side side ends.a ends.b).ahead ≡ Some (record_with entry bytes))
    × (after ≡ refused before side entry bytes (is_of_changed_bytes reason)))
    ⊎ (((of_side side ends.a ends.b).ahead ≡ None) × (after ≡ before))

-- records after the refused one, and perhaps that none is left
abbrev pub Followed : LadderView → LadderView → Type 0
Followed before after = (behind : LadderView) × WereFollowed before behind × ((after ≡ behind) ⊎ (after ≡ record behind { ended = true }))

abbrev pub IsRefusedThere : Side → Reason → ShownEnds → (made after : LadderView) → Type 0
IsRefusedThere side reason ends made after = (here : LadderView) × TellsAhead side reason ends made here × Followed here after

-- after the records that were made none is left, or one is refused, and perhaps records of both captures come after it
abbrev pub IsLadder : Verdict → ShownEnds → (made after : LadderView) → Type 0
IsLadder (Accepted summary) ends made after = after ≡ record made { ended = true }
IsLadder (Refused side place reason) ends made after = IsRefusedThere side reason ends made after

-- where the ladder was not told of the rest, it was told of nothing after that
abbrev pub IsLadderBy : (rest : List MadeRecord) → Verdict → ShownEnds → (made after : LadderView) → Type 0
IsLadderBy [] verdict ends made after = IsLadder verdict ends made after
IsLadderBy (next ∷ more) verdict ends made after = after ≡ made

-- This is drawn of two texts in this range: the judge answers the verdict of them, and the ladder was told of the records in an order in which
-- two nodes can make them, and then of the refused one.
pub record IsPicture (range : Range) (text_a text_b : Option (List ℕ)) (verdict : Verdict) (drawn : DrawnView) : Type 0 where
  pub judged : IsAnswer (nodes_of range.layers) text_a text_b (Ok verdict)
  pub ends : ShownEnds
  pub gives : ends.verdict ≡ verdict
  pub made : LadderView
  pub rest : List MadeRecord
  pub told : WasTold (nodes_of range.layers) text_a text_b ends (WereTold (keep_of range verdict) range.rows made rest)
  pub after : LadderView
  pub ladder : IsLadderBy rest verdict ends made after
  pub drawn_so : IsDrawn after.kept after.ended drawn

-- ---- what is answered of two texts

abbrev pub IsDrawing : Range → (text_a text_b : Option (List ℕ)) → Result DrawnPair JudgeFault → Type 0
IsDrawing range text_a text_b (Ok pair) = IsPicture range text_a text_b pair.ends.verdict pair.drawn
IsDrawing range text_a text_b (Err fault) = IsAnswer (nodes_of range.layers) text_a text_b (Err fault)

-- ---- what is written

-- the bytes that a writer has, and its count of failed calls, before and after
pub record Writing : Type 0 where
  pub old : Option (List ℕ)
  pub new : Option (List ℕ)
  pub old_faults : ℕ
  pub new_faults : ℕ

-- A text of the rows is written; or a beginning that is not all of it, by a failed write; or there is no verdict or nothing else to draw, and nothing
-- is. In which words the text tells them is not said here.
abbrev pub Draws : Range → (text_a text_b : Option (List ℕ)) → Writing → Result Verdict DrawFault → Type 0
Draws range text_a text_b out (Ok verdict) =
    (drawn : DrawnView) × IsPicture range text_a text_b verdict drawn
    × (text : List ℕ) × Appends out.old out.new text × (out.new_faults ≡ out.old_faults)
Draws range text_a text_b out (Err Write) =
    (verdict : Verdict) × (drawn : DrawnView) × IsPicture range text_a text_b verdict drawn
    × (text : List ℕ) × AppendsBeginning out.old out.new text × CountedFault out.old_faults out.new_faults
Draws range text_a text_b out (Err (Judge fault)) =
    IsAnswer (nodes_of range.layers) text_a text_b (Err fault) × (out.new ≡ out.old) × (out.new_faults ≡ out.old_faults)
