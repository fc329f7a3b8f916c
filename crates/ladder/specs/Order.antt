-- In which order records are drawn: another one than that in which they were told, perhaps, but one of which the same holds.
use Rattle.std.specs.Prelude.{◌≡◌, ℕ, ◌==◌, Bool, true, false, Some, if◌then◌else◌, List, [], ◌∷◌, take}
use Rattle.std.specs.List.{list_all, remove, slice_get}
use Rattle.wire_base.specs.declared.side.Side.{Side}
use Rattle.ladder.specs.declared.told.What.{What}
use Rattle.ladder.specs.declared.told.What.TheVariants as what
use Rattle.ladder.specs.declared.row.Row.{Row}
use Rattle.ladder.specs.Row.{is_side}

-- what comes by the first record, the second one sent, if the other side made it
abbrev pub rests_on : What → What → Bool
rests_on (what.Came hint became said sent) (what.Sent unit said_then again) = hint == unit
rests_on _ _ = false

-- A record may be above one that was told before it, if the other side made that, and did not send by it what comes by this.
abbrev pub may_pass : Row → Row → Bool
may_pass row before =
    if is_side before.told.side row.told.side then false else (if rests_on row.told.what before.told.what then false else true)

-- of these records, the one in this place may be above all others
abbrev pub MayBeFirst : List Row → ℕ → Row → Type 0
MayBeFirst records place row = (slice_get records place ≡ Some row) × (list_all (may_pass row) (take place records) ≡ true)

-- The told records in an order: one that may be first, and the others in an order.
abbrev pub IsOrder : List Row → List Row → Type 0
IsOrder told [] = told ≡ []
IsOrder told (row ∷ order) = (place : ℕ) × MayBeFirst told place row × IsOrder (remove told place) order

-- the records of a side
abbrev pub of_side : Side → List Row → List Row
of_side side [] = []
of_side side (row ∷ rows) = if is_side row.told.side side then row ∷ of_side side rows else of_side side rows
