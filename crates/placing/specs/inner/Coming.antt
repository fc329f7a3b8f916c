-- What holds of each receipt by the number of units that are sent before it and by its hint, from one record to the next.
use Rattle.std.specs.Prelude.{◌≡◌, ℕ, ◌+◌, ◌≤◌, ◌<◌, List, [], ◌∷◌, length}
use Rattle.placing.specs.Placed.{Units, other_count}

-- it holds still where more units of the side are sent
abbrev pub Lasts : (ℕ → ℕ → Type 0) → Type 0
Lasts Comes = (sent more number : ℕ) → sent ≤ more → Comes sent number → Comes more number

-- it holds of each number below these, one after another
abbrev pub HoldsBefore : (ℕ → ℕ → Type 0) → ℕ → List ℕ → Type 0
HoldsBefore Comes sent [] = Unit {0}
HoldsBefore Comes sent (count ∷ seen) = ((number : ℕ) → number < count → Comes sent number) × HoldsBefore Comes (sent + 1) seen

-- It holds of whatever may come next, where so many units of the side are sent: before each that is not written yet, and after them.
pub record HoldsOn (Comes : ℕ → ℕ → Type 0) (sent : ℕ) (units : Units) : Type 0 where
  pub same : length units.seen ≡ length units.own
  pub before : HoldsBefore Comes sent units.seen
  pub after : (number : ℕ) → number < other_count units → Comes (sent + length units.own) number
