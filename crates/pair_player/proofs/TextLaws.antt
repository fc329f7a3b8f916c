-- What the lines of steps keep, so that a text of them is read in one way alone.
use Rattle.std.proofs.Common.{◌≡◌, ℕ, List, length, Result, Ok, Err, refl, sym, ap, ◌∙◌, arith}
use Rattle.std.proofs.lemmas.Bool.{le-leb, lt-leb}
use Rattle.capture.specs.declared.fault.Departure.{Departure}
use Rattle.capture.specs.declared.fault.Departure.TheVariants.{Syntax, TooLong, TooMany, Part}
use Rattle.capture.specs.ListLines.{AreLinesOf}
use Rattle.capture.proofs.ListedLines.{no_lf}
use Rattle.dna_play.specs.Script.{ScriptStep}
use Rattle.dna_play.specs.ScriptText.{line_text, script_form, step_bytes, most_bytes, IsStep, WordsDepart}
use Rattle.pair_player.specs.inner.Reading.{line_at}
use Rattle.pair_player.proofs.LineWords.{line_again}
use Rattle.pair_player.proofs.LackLaws.{line_lacks, line_short}

-- a step that has a line is read from it
line_read : (line : ScriptStep) → IsStep line → line_at (line_text line) ≡ Ok line
line_read line h = line_again line.side line.step h.spelling ∙ rw (le-leb _ _ h.short) refl

same_line : (p q : ScriptStep) → IsStep p → IsStep q → line_text p ≡ line_text q → p ≡ q
same_line p q h k e =
    let both : ◌≡◌ {A = Result ScriptStep Departure} (Ok p) (Ok q) = sym (line_read p h) ∙ ap line_at e ∙ line_read q k in
    cc

words_fit : (kind : Departure) (line : ScriptStep) → IsStep line → WordsDepart kind (line_text line) → ⊥
words_fit Syntax line h d = d line h.spelling refl
words_fit TooMany line h d = d
words_fit Part line h d = d
words_fit TooLong line h d =
    let long : line_at (line_text d.0) ≡ Err TooLong =
    line_again d.0.side d.0.step d.1 ∙ rw (lt-leb (length (step_bytes d.0.step)) (most_bytes d.0.step) (omega (arith, d.2))) refl in
    let both : ◌≡◌ {A = Result ScriptStep Departure} (Ok line) (Err TooLong) = sym (line_read line h) ∙ ap line_at d.3 ∙ long in
    cc

words_once : (line : List ℕ) (a b : Departure) → WordsDepart a line → WordsDepart b line → a ≡ b
words_once line Syntax Syntax p q = refl
words_once line TooLong TooLong p q = refl
words_once line TooMany b p q = absurd p
words_once line a TooMany p q = absurd q
words_once line Part b p q = absurd p
words_once line a Part p q = absurd q
words_once line Syntax TooLong p q = absurd (p q.0 q.1 q.3)
words_once line TooLong Syntax p q = absurd (q p.0 p.1 p.3)

pub lines : AreLinesOf script_form
lines = record {
  lacks = λ line h. no_lf (line_text line) (line_lacks line h.spelling);
  short = line_short;
  same = same_line;
  fit = words_fit;
  once = words_once;
  first_lacks = refl;
  first_short = omega arith;
}
