-- The text of what passed on a line, and how a text departs from it. Lines, addresses and BYTES are those of a capture.
use Rattle.std.specs.Prelude.{◌≡◌, ℕ, ◌≤◌, List, codes, length}
use Rattle.hex.specs.Hex.{IsBytes}
use Rattle.wire_base.specs.declared.side.Side.{Side}
use Rattle.wire_base.specs.Side.{side_letter}
use Rattle.capture.specs.declared.fault.Departure.{Departure}
use Rattle.capture.specs.declared.fault.Departure.TheVariants.{Syntax, TooLong, TooMany, Part}
use Rattle.capture.specs.Text.{bytes_text, spaced}
use Rattle.capture.specs.Listed.{Listed, ListForm, ItemDeparts, ListHeadDeparts}
use Rattle.wire_text.specs.declared.limit.TheConstants.{MAX_PIECE, MAX_PIECES}

-- ---- pieces

-- bytes that this side sent, which passed together
pub record Piece : Type 0 where
  pub side : Side
  pub bytes : List ℕ

abbrev pub piece : Side → List ℕ → Piece
piece side bytes = record { side = side; bytes = bytes }

-- the addresses of both nodes, and the pieces in the order in which they passed
abbrev pub Wire : Type 0
Wire = Listed Piece

-- a piece's line, without its LF: the letter of its side, and two digits for each byte
abbrev pub piece_text : Piece → List ℕ
piece_text piece = spaced (side_letter piece.side) (bytes_text piece.bytes)

-- ---- the ranges

-- a piece that a line could spell, were lines of any length allowed: it has at least one byte
pub record HasSpelling (piece : Piece) : Type 0 where
  pub some : 1 ≤ length piece.bytes
  pub bytes : IsBytes piece.bytes

-- a piece that has a line
pub record IsPiece (piece : Piece) : Type 0 where
  pub spelling : HasSpelling piece
  pub short : length piece.bytes ≤ MAX_PIECE

-- ---- departures

-- The words of a line depart: they are no piece's. (A line that is no longer than a line may be has no piece that is too long.)
abbrev pub WordsDepart : Departure → List ℕ → Type 0
WordsDepart TooMany line = ⊥
WordsDepart TooLong line = ⊥
WordsDepart Syntax line = (piece : Piece) → HasSpelling piece → line ≡ piece_text piece → ⊥
WordsDepart Part line = ⊥

-- ---- the text

abbrev pub wire_form : ListForm Piece
wire_form = record {
  first_words = codes "ddwire 1 ";
  line = piece_text;
  HasLine = IsPiece;
  most = MAX_PIECES;
  WordsDepart = WordsDepart;
}

-- The first line of what is to come departs, after this many pieces
abbrev pub PieceDeparts : ℕ → Departure → List ℕ → Type 0
PieceDeparts pieces kind bytes = ItemDeparts wire_form pieces kind bytes

-- The first line of a text departs from a head
abbrev pub WireHeadDeparts : Departure → List ℕ → Type 0
WireHeadDeparts kind text = ListHeadDeparts wire_form.first_words kind text
