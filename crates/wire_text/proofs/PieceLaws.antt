-- A piece's line: what is read is its one spelling, and its spelling is read.
use Rattle.std.proofs.Common.{◌≡◌, ℕ, ◌*◌, ◌≤◌, List, [], ◌∷◌, length, get_or, Some, None, Result, Ok, Err, refl, sym, ap}
use Rattle.std.proofs.Common.{subst, ◌∙◌, arith}
use Rattle.std.proofs.lemmas.Bool.{le-leb}
use Rattle.std.proofs.lemmas.List.{length-append}
use Rattle.std.proofs.lemmas.Option.{same_Some}
use Rattle.hex.specs.Hex.{lower_digits}
use Rattle.hex.proofs.HexLemmas.{length-encode_with}
use Rattle.wire_base.specs.declared.side.Side.{Side}
use Rattle.wire_base.specs.declared.side.Side.TheVariants.{A, B}
use Rattle.wire_base.specs.Side.{side_letter}
use Rattle.capture.specs.declared.limit.TheConstants.{MAX_LINE}
use Rattle.capture.specs.declared.fault.Departure.{Departure}
use Rattle.capture.specs.declared.fault.Departure.TheVariants.{Syntax}
use Rattle.capture.specs.Text.{bytes_text, spaced}
use Rattle.capture.specs.ListReader.{IsLineOf}
use Rattle.capture.specs.Reading.{any_bytes_at, bytes_at}
use Rattle.capture.specs.Sided.{side_at}
use Rattle.capture.proofs.BytesLaws.{IsBytesOf, IsLongOf, any_bytes_again, bytes_again, bytes_shows, limited}
use Rattle.capture.proofs.SidedLaws.{side_again}
use Rattle.capture.proofs.Shown.{Shows}
use Rattle.wire_text.specs.declared.limit.TheConstants.{MAX_PIECE}
use Rattle.wire_text.specs.WireText.{Piece, HasSpelling, WordsDepart, piece, piece_text, wire_form}

-- ---- the side

-- one letter, and the same behind it
spaced_back : (s t : Side) (x y : List ℕ) → spaced (side_letter s) x ≡ spaced (side_letter t) y → x ≡ y
spaced_back A A x y e = cc
spaced_back B B x y e = cc
spaced_back A B x y e = let first : ◌≡◌ {A = ℕ} 97 98 = ap (λ (l : List ℕ). get_or l 0 0) e in absurd (omega arith)
spaced_back B A x y e = let first : ◌≡◌ {A = ℕ} 98 97 = ap (λ (l : List ℕ). get_or l 0 0) e in absurd (omega arith)

-- ---- the piece

pub piece_read : (line digits : List ℕ) (side : Side) (bytes : List ℕ) → line ≡ spaced (side_letter side) digits →
    bytes_at MAX_PIECE digits ≡ Ok bytes → 1 ≤ length bytes → IsLineOf wire_form line (piece side bytes)
piece_read line digits side bytes e read some =
    from (subst (Shows (IsBytesOf MAX_PIECE digits) (IsLongOf MAX_PIECE digits)) read (bytes_shows MAX_PIECE digits))
  where
    from : IsBytesOf MAX_PIECE digits bytes → IsLineOf wire_form line (piece side bytes)
    from h = record {
      fits = record { spelling = record { some = some; bytes = h.1 }; short = h.2 };
      spelled = e ∙ ap (spaced (side_letter side)) h.0;
    }

-- where no side is read, no piece is spelled
pub no_side : (line : List ℕ) → side_at line ≡ None → WordsDepart Syntax line
no_side line none p h spelled = none_is (ap side_at (sym spelled) ∙ none)
  where
    none_is : side_at (piece_text p) ≡ None → ⊥
    none_is e = let some = side_again p.side (bytes_text p.bytes) in absurd cc

-- no bytes, or none that could be read
abbrev pub IsNothing : Result (List ℕ) Departure → Type 0
IsNothing (Ok bytes) = bytes ≡ []
IsNothing (Err kind) = Unit {0}

nothing_apart : (bytes : List ℕ) (r : Result (List ℕ) Departure) → 1 ≤ length bytes → Ok bytes ≡ r → IsNothing r → ⊥
nothing_apart bytes (Err kind) some e n = absurd cc
nothing_apart bytes (Ok read) some e n = let same = ok_is bytes read e in let len = ap length (same ∙ n) in absurd (omega arith)
  where
    ok_is : (x y : List ℕ) → ◌≡◌ {A = Result (List ℕ) Departure} (Ok x) (Ok y) → x ≡ y
    ok_is x y f = cc

-- a line that is no longer than a line may be has no piece that is too long
letter_len : (side : Side) → length (side_letter side) ≡ 1
letter_len A = refl
letter_len B = refl

spelled_len : (bytes : List ℕ) → 1 ≤ length bytes → length (bytes_text bytes) ≡ 2 * length bytes
spelled_len [] h = absurd (omega arith)
spelled_len (b ∷ bytes) h = let len = length-encode_with lower_digits (b ∷ bytes) in omega arith

fits_line : (line : List ℕ) (p : Piece) → HasSpelling p → line ≡ piece_text p → length line ≤ MAX_LINE → length p.bytes ≤ MAX_PIECE
fits_line line p h spelled short =
    let parts = length-append (side_letter p.side) (32 ∷ bytes_text p.bytes) in
    let letter = letter_len p.side in
    let digits = spelled_len p.bytes h.some in
    let all = ap length spelled in
    omega arith

limited_within : (most : ℕ) (bytes : List ℕ) → length bytes ≤ most → limited most bytes bytes ≡ Ok bytes
limited_within most bytes h = rw (le-leb (length bytes) most h) refl

pub no_piece : (line digits : List ℕ) (side : Side) (r : Result (List ℕ) Departure) → length line ≤ MAX_LINE →
    line ≡ spaced (side_letter side) digits → bytes_at MAX_PIECE digits ≡ r → IsNothing r → WordsDepart Syntax line
no_piece line digits side r short e read n p h spelled =
    let same : digits ≡ bytes_text p.bytes = spaced_back side p.side digits (bytes_text p.bytes) (sym e ∙ spelled) in
    let again : Ok p.bytes ≡ r =
    sym (limited_within MAX_PIECE p.bytes (fits_line line p h spelled short)) ∙ sym (bytes_again MAX_PIECE p.bytes h.bytes)
    ∙ ap (bytes_at MAX_PIECE) (sym same) ∙ read in
    nothing_apart p.bytes r h.some again n

-- ---- what a spelling is read as

pub same_piece : (p q : Piece) → HasSpelling p → HasSpelling q → piece_text p ≡ piece_text q → p ≡ q
same_piece p q h k e =
    let sides = sym (side_again p.side (bytes_text p.bytes)) ∙ ap side_at e ∙ side_again q.side (bytes_text q.bytes) in
    let parts : ◌≡◌ {A = Side × List ℕ} (p.side, bytes_text p.bytes) (q.side, bytes_text q.bytes) = some_is _ _ sides in
    let side_is : p.side ≡ q.side = ap (λ (z : Side × List ℕ). z.0) parts in
    let digits_are : bytes_text p.bytes ≡ bytes_text q.bytes = ap (λ (z : Side × List ℕ). z.1) parts in
    let bytes_are : p.bytes ≡ q.bytes =
    some_bytes _ _ (sym (any_bytes_again p.bytes h.bytes) ∙ ap any_bytes_at digits_are ∙ any_bytes_again q.bytes k.bytes) in
    rw (side_is, bytes_are) refl
  where
    some_is : (x y : Side × List ℕ) → Some x ≡ Some y → x ≡ y
    some_is x y f = same_Some x y f

    some_bytes : (x y : List ℕ) → Some x ≡ Some y → x ≡ y
    some_bytes x y f = same_Some x y f
