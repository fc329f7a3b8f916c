-- No LF stands in the words of a line, and they are no longer than a line may be.
use Rattle.std.proofs.Common.{◌≤◌, length, arith, lit<}
use Rattle.wire_base.specs.Side.{side_letter}
use Rattle.capture.specs.declared.limit.TheConstants.{MAX_LINE}
use Rattle.capture.specs.Text.{bytes_text}
use Rattle.capture.proofs.PartLaws.{HasNo}
use Rattle.capture.proofs.BytesLaws.{bytes_lack}
use Rattle.capture.proofs.SidedLaws.{letter_lacks, letter_short}
use Rattle.capture.proofs.LackLaws.{spaced_lacks, bytes_short, spaced_short}
use Rattle.wire_text.specs.declared.limit.TheConstants.{MAX_PIECE}
use Rattle.wire_text.specs.WireText.{Piece, piece_text, HasSpelling, IsPiece}

pub piece_lacks : (piece : Piece) → HasSpelling piece → HasNo 10 (piece_text piece)
piece_lacks piece h =
    spaced_lacks (side_letter piece.side) (bytes_text piece.bytes) (letter_lacks piece.side) (bytes_lack 10 piece.bytes (lit< tt) h.bytes)

-- ---- lengths

pub piece_short : (piece : Piece) → IsPiece piece → length (piece_text piece) ≤ MAX_LINE
piece_short piece h =
    let n = spaced_short (side_letter piece.side) (bytes_text piece.bytes) 1 131078 (letter_short piece.side)
    (bytes_short MAX_PIECE piece.bytes (omega arith) h.short) in
    omega arith
