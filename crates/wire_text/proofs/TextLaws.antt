-- What the lines of pieces keep, so that a text of them is read in one way alone.
use Rattle.std.proofs.Common.{◌≡◌, List, ℕ, refl, arith}
use Rattle.capture.specs.declared.fault.Departure.{Departure}
use Rattle.capture.specs.declared.fault.Departure.TheVariants.{Syntax, TooLong, TooMany, Part}
use Rattle.capture.specs.ListLines.{AreLinesOf}
use Rattle.capture.proofs.ListedLines.{no_lf}
use Rattle.wire_text.specs.WireText.{Piece, piece_text, wire_form, IsPiece, WordsDepart}
use Rattle.wire_text.proofs.PieceLaws.{same_piece}
use Rattle.wire_text.proofs.LackLaws.{piece_lacks, piece_short}

words_fit : (kind : Departure) (piece : Piece) → IsPiece piece → WordsDepart kind (piece_text piece) → ⊥
words_fit Syntax piece h d = d piece h.spelling refl
words_fit TooMany piece h d = d
words_fit TooLong piece h d = d
words_fit Part piece h d = d

words_once : (line : List ℕ) (a b : Departure) → WordsDepart a line → WordsDepart b line → a ≡ b
words_once line Syntax Syntax p q = refl
words_once line TooLong b p q = absurd p
words_once line TooMany b p q = absurd p
words_once line Part b p q = absurd p
words_once line Syntax TooLong p q = absurd q
words_once line Syntax TooMany p q = absurd q
words_once line Syntax Part p q = absurd q

pub lines : AreLinesOf wire_form
lines = record {
  lacks = λ piece h. no_lf (piece_text piece) (piece_lacks piece h.spelling);
  short = piece_short;
  same = λ p q h k. same_piece p q h.spelling k.spelling;
  fit = words_fit;
  once = words_once;
  first_lacks = refl;
  first_short = omega arith;
}
