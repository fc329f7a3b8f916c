-- The units that each side of a line sent, as the framer finds them in what passed.
use Rattle.std.specs.Prelude.{ℕ, ◌+◌, ◌-◌, nat_lt, if◌then◌else◌, List, [], ◌∷◌, ◌++◌, length, drop, map, slice_index, Option, Some, None}
use Rattle.wire_base.specs.declared.side.Side.{Side}
use Rattle.wire_base.specs.declared.side.Side.TheVariants.{A, B}
use Rattle.framer.specs.declared.kind.Kind.{Kind}
use Rattle.framer.specs.declared.kind.Kind.TheVariants.{Control, Data, Maintenance}
use Rattle.framer.specs.Framing.{UnitAt, framing, kind_of, units_at}
use Rattle.wire_text.specs.WireText.{Piece, Wire}

-- these bytes, if the first side is the second
abbrev pub bytes_if : Side → Side → List ℕ → List ℕ
bytes_if A A bytes = bytes
bytes_if A B bytes = []
bytes_if B A bytes = []
bytes_if B B bytes = bytes

-- the bytes that a side sent
abbrev pub bytes_of : Side → List Piece → List ℕ
bytes_of side [] = []
bytes_of side (piece ∷ pieces) = bytes_if side piece.side piece.bytes ++ bytes_of side pieces

-- a unit of this kind, unless it is a maintenance message
abbrev pub message_of : {A : Type 0} → Option Kind → A → List A
message_of (Some Control) unit = unit ∷ []
message_of (Some Data) unit = unit ∷ []
message_of (Some Maintenance) unit = []
message_of None unit = unit ∷ []

-- those of the units that are no maintenance messages
abbrev pub messages : List (List ℕ) → List (List ℕ)
messages [] = []
messages (unit ∷ units) = message_of (kind_of (slice_index unit 0)) unit ++ messages units

-- the units that a side sent in these pieces, all that are whole and no maintenance messages, in their order
abbrev pub units_within : Side → List Piece → List (List ℕ)
units_within side pieces = messages (framing (bytes_of side pieces)).units

-- those in all pieces
abbrev pub units_of : Side → Wire → List (List ℕ)
units_of side wire = units_within side wire.items

-- ---- what passed, of both sides

-- a unit that passed, of this side, and the line of the text on which its first byte is
pub record UnitPassed : Type 0 where
  pub side : Side
  pub bytes : List ℕ
  pub line : ℕ

abbrev pub unit_passed : Side → List ℕ → ℕ → UnitPassed
unit_passed side bytes line = record { side = side; bytes = bytes; line = line }

-- those of the units that are no maintenance messages, with how many bytes of the side come before each
abbrev pub messages_at : List UnitAt → List UnitAt
messages_at [] = []
messages_at (u ∷ units) = message_of (kind_of (slice_index u.unit 0)) u ++ messages_at units

-- the line of a byte before which the side sent so many, where the first of the pieces is on this line
abbrev pub line_at : Side → ℕ → List Piece → ℕ → ℕ
line_at side line [] place = line
line_at side line (piece ∷ pieces) place =
    if nat_lt place (length (bytes_if side piece.side piece.bytes)) then line
    else line_at side (line + 1) pieces (place - length (bytes_if side piece.side piece.bytes))

-- units of a side, by the lines of its bytes
abbrev pub with_lines : Side → (ℕ → ℕ) → List UnitAt → List UnitPassed
with_lines side lines units = map (λ (u : UnitAt). unit_passed side u.unit (lines u.place)) (messages_at units)

-- the units that a side sent in these pieces; the head is on line 1, and each piece on a line of its own
abbrev pub side_passed : Side → List Piece → List UnitPassed
side_passed side pieces = with_lines side (line_at side 2 pieces) (units_at 0 (bytes_of side pieces))

-- those that are whole with this piece, and were not before
abbrev pub passed_with : List Piece → Piece → List UnitPassed
passed_with before piece = drop (length (side_passed piece.side before)) (side_passed piece.side (before ++ piece ∷ []))

abbrev pub passed_after : (before pieces : List Piece) → List UnitPassed
passed_after before [] = []
passed_after before (piece ∷ pieces) = passed_with before piece ++ passed_after (before ++ piece ∷ []) pieces

-- the units of both sides in the order of their last bytes
abbrev pub passed_in : List Piece → List UnitPassed
passed_in pieces = passed_after [] pieces

-- those of one side
abbrev pub unit_if : Side → Side → List ℕ → List (List ℕ)
unit_if A A unit = unit ∷ []
unit_if A B unit = []
unit_if B A unit = []
unit_if B B unit = unit ∷ []

abbrev pub units_by : Side → List UnitPassed → List (List ℕ)
units_by side [] = []
units_by side (u ∷ units) = unit_if side u.side u.bytes ++ units_by side units
