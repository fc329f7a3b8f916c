-- Where records are in the rows, and what an arrow joins.
use Rattle.std.specs.Prelude.{◌≡◌, ◌⊎◌, drop, ℕ, Option, Some, None, List, [], ◌∷◌}
use Rattle.std.specs.List.{flat_map}
use Rattle.wire_base.specs.declared.side.Side.{Side}
use Rattle.wire_base.specs.Side.{other_side}
use Rattle.ladder.specs.declared.told.Told.{Told}
use Rattle.ladder.specs.declared.told.What.{What}
use Rattle.ladder.specs.declared.told.What.TheVariants as what
use Rattle.ladder.specs.declared.row.Row.{Row}
use Rattle.ladder.specs.declared.row.Fate.{Fate}
use Rattle.ladder.specs.declared.row.Fate.TheVariants as fate

-- a record, by its side and its line there
pub record Place : Type 0 where
  pub side : Side
  pub line : ℕ

abbrev pub place : Told → Place
place told = record { side = told.side; line = told.line }

-- the receipt in the row of its unit
abbrev pub receipt_places : Side → Fate → List Place
receipt_places sender (fate.Here receipt) = record { side = other_side sender; line = receipt.line } ∷ []
receipt_places sender fate.Open = []
receipt_places sender fate.Came = []
receipt_places sender fate.Lost = []

-- the records of rows, in the order in which they come
abbrev pub row_places : Row → List Place
row_places row = place row.told ∷ receipt_places row.told.side row.fate

abbrev pub places : List Row → List Place
places rows = flat_map row_places rows

-- ---- an arrow

-- the number of the unit that a record sent, and the one that a receipt's hint has
abbrev pub unit_sent : What → Option ℕ
unit_sent (what.Sent unit said again) = Some unit
unit_sent _ = None

abbrev pub hint_named : What → Option ℕ
hint_named (what.Came hint became said sent) = Some hint
hint_named _ = None

abbrev pub receipt_line : Fate → Option ℕ
receipt_line (fate.Here receipt) = Some receipt.line
receipt_line _ = None

-- the row has no receipt; made is the row with this record as the receipt of its unit, whose number is the record's hint
pub record IsArrow (row : Row) (next : Told) (made : Row) : Type 0 where
  pub unit : ℕ
  pub sent : unit_sent row.told.what ≡ Some unit
  pub named : hint_named next.what ≡ Some unit
  pub sides : next.side ≡ other_side row.told.side
  pub alone : receipt_line row.fate ≡ None
  pub told : made.told ≡ row.told
  pub line : receipt_line made.fate ≡ Some next.line

-- ---- which rows stay

-- the last of the next rows, or those that were there before
abbrev pub IsCut : List Row → List Row → List Row → Type 0
IsCut before next after = ((n : ℕ) × (after ≡ drop n next)) ⊎ (after ≡ before)
