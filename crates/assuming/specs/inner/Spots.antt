-- What is kept of a capture, of which the last pass asks where an assumption may stand.
use Rattle.std.specs.Prelude.{◌≡◌, ℕ, List, [], ◌∷◌, ◌++◌, length}
use Rattle.std.specs.List.{AllByRecursion}
use Rattle.capture_record.specs.declared.record.Record.{Record}
use Rattle.placing.specs.Placed.{units_sent}
use Rattle.assuming.specs.Assuming.{IsCalled, IsSent, IsStart, kept_since}
use Rattle.assuming.specs.declared.spots.Basis.{Basis}
use Rattle.assuming.specs.declared.spots.Basis.TheVariants.{Starts, Sends, Called}
use Rattle.assuming.specs.declared.spots.Spot.{Spot}

abbrev pub IsBasis : List Record → ℕ → Basis → Type 0
IsBasis rs unit (Starts kept) = IsStart rs unit kept
IsBasis rs unit (Sends kind) = IsSent rs unit kind
IsBasis rs unit (Called came partner) = IsCalled rs unit came partner

-- it tells what is among these records
abbrev pub IsSpot : List Record → Spot → Type 0
IsSpot rs spot = IsBasis rs spot.unit spot.basis

-- the spots that were found, how many units were sent, and how many packets were kept since the last one
pub record Kept : Type 0 where
  pub spots : List Spot
  pub units : ℕ
  pub kept : ℕ

-- all of it is true of these records
pub record AreOf (rs : List Record) (k : Kept) : Type 0 where
  pub each : AllByRecursion (IsSpot rs) k.spots
  pub units_are : length (units_sent rs) ≡ k.units
  pub kept_are : kept_since 0 rs ≡ k.kept

-- one spot more, after the units so far
abbrev pub with_spot : Kept → Basis → Kept
with_spot k basis = record k { spots = k.spots ++ (record { unit = k.units; basis = basis }) ∷ [] }
