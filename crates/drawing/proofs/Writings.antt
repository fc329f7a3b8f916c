-- What is said of a text that is written.
use Rattle.std.proofs.Common.{◌≡◌, ℕ, List, Option, Ok, Err}
use Rattle.std.specs.Io.KnownBytes.{Appends}
use Rattle.wire_base.specs.Tally.{AppendsBeginning, CountedFault}
use Rattle.ladder.specs.Drawn.{DrawnView}
use Rattle.pair_judge.specs.declared.verdict.Verdict.{Verdict}
use Rattle.drawing.specs.declared.fault.DrawFault.TheVariants.{Write}
use Rattle.drawing.specs.declared.range.Range.{Range}
use Rattle.drawing.specs.Drawing.{Draws, IsPicture, Writing}

pub draws_all : (range : Range) (text_a text_b : Option (List ℕ)) (out : Writing) (verdict : Verdict) (drawn : DrawnView) (text : List ℕ)
    → IsPicture range text_a text_b verdict drawn → Appends out.old out.new text → out.new_faults ≡ out.old_faults
    → Draws range text_a text_b out (Ok verdict)
draws_all range text_a text_b out verdict drawn text picture appended same = (drawn, picture, text, appended, same)

pub draws_some : (range : Range) (text_a text_b : Option (List ℕ)) (out : Writing) (verdict : Verdict) (drawn : DrawnView) (text : List ℕ)
    → IsPicture range text_a text_b verdict drawn → AppendsBeginning out.old out.new text → CountedFault out.old_faults out.new_faults
    → Draws range text_a text_b out (Err Write)
draws_some range text_a text_b out verdict drawn text picture appended counted = (verdict, drawn, picture, text, appended, counted)
