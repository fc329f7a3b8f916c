-- One direction of a line under way.
use Rattle.std.specs.Prelude.{◌≡◌, ℕ, ◌+◌, ◌-◌, ◌<◌, ◌^◌, min, List, [], ◌++◌, length, Option, Some, None}
use Rattle.wire_base.specs.declared.side.Side.{Side}
use Rattle.capture.specs.declared.hint.HintForm.TheVariants.{Number}
use Rattle.capture_record.specs.declared.record.Record.{Record}
use Rattle.capture.specs.Text.{record_lines}
use Rattle.framer.specs.declared.kind.Kind.{Kind}
use Rattle.framer.specs.Framing.{Framing, framing, only_left}
use Rattle.framer.specs.Given.{IsUnitFound, NoneFound}
use Rattle.framer.specs.SoFar.{IsFramedSoFar}
use Rattle.placing.specs.Placed.{AllCome, HavePassed, HintsRise, NameUnits, Units, Waiting, nothing, other_count, units_sent}
use Rattle.placing.specs.inner.Coming.{HoldsOn}
use Rattle.wire_text.specs.WireText.{Piece}
use Rattle.wire_tap.specs.Tapping.{HadPassed}
use Rattle.wire_tap.specs.Units.{message_of, messages}
use Rattle.wire_tap.specs.declared.side_tap.SideTap.{SideTap}
use Rattle.wire_tap.specs.declared.side_tap.SideUnits.{SideUnits}
use Rattle.wire_tap.specs.declared.side_tap.Next.{Next}
use Rattle.wire_tap.specs.declared.side_tap.Next.TheVariants as next
use Rattle.wire_tap.specs.declared.tapped.Ending.{Ending}
use Rattle.wire_tap.specs.declared.tapped.Ending.TheVariants.{Whole, Unplaced, TooWide, Asked}
use Rattle.wire_tap.specs.declared.tapped.Passed.{Passed}

-- the units that wait with the lines that are put, and how many units there were
pub record UnitsState : Type 0 where
  pub waiting : Waiting
  pub count : ℕ

abbrev pub units_state : SideUnits → UnitsState
units_state units = record { waiting = units.placing; count = units.count }

-- these, and what the framer holds
pub record SideState : Type 0 where
  pub held : List ℕ
  pub units : UnitsState

abbrev pub side_state : SideTap → SideState
side_state tap = record { held = tap.framer.held; units = units_state tap.units }

-- nothing passed yet
pub record IsNew (tap : SideTap) : Type 0 where
  pub held : tap.framer.held ≡ []
  pub waiting : tap.units.placing ≡ nothing
  pub count : tap.units.count ≡ 0

-- After so many units in lines and those that wait, the units of the other side had passed, these too.
abbrev pub HoldsOfMore : Side → List Piece → ℕ → List (List ℕ) → Units → Type 0
HoldsOfMore side pieces sent other units =
    (number : ℕ) → number < other_count units + length other → HadPassed side pieces (sent + length units.own) number

-- These units passed too, and these of the other side, and lines were put: each receipt in them is of a unit of the other side that passed, whichever
-- had passed before, and had passed in time, in whichever pieces those before had.
pub record MovesOn (units other : List (List ℕ)) (old new : Waiting) : Type 0 where
  pub records : List Record
  pub sent : units_sent records ++ new.units.own ≡ old.units.own ++ units
  pub text : new.text ≡ old.text ++ record_lines Number records
  pub named : (all : List (List ℕ)) → HavePassed all old.units → NameUnits (all ++ other) records
  pub passed : (all : List (List ℕ)) → HavePassed all old.units → HavePassed (all ++ other) new.units
  pub count : other_count new.units ≡ other_count old.units + length other
  pub rise : HintsRise old.units.gone new.units.gone records
  pub come : (side : Side) (pieces : List Piece) (sent : ℕ) → HoldsOn (HadPassed side pieces) sent old.units →
      HoldsOfMore side pieces sent other old.units →
      AllCome (HadPassed side pieces) sent records × HoldsOn (HadPassed side pieces) (sent + length (units_sent records)) new.units

-- so many more, up to the last number of a u64
abbrev pub counted : ℕ → ℕ → ℕ
counted old more = min (old + more) (2 ^ 64 - 1)

-- the same with their count
pub record PassUnits (units : List (List ℕ)) (old new : UnitsState) : Type 0 where
  pub moves : MovesOn units [] old.waiting new.waiting
  pub count : old.count < 2 ^ 64 → new.count ≡ counted old.count (length units)

-- the unit with which the captures are to end, and the side at hand
pub record Aim : Type 0 where
  pub last : Option (Side × ℕ)
  pub side : Side

abbrev pub aim : Option (Side × ℕ) → Side → Aim
aim last side = record { last = last; side = side }

-- the last of this many units of the side
abbrev pub IsUnitAt : Side → ℕ → Passed → Type 0
IsUnitAt side units passed = (passed.side ≡ side) × (units < 2 ^ 64 → passed.unit + 1 ≡ units)

-- the captures end with the last of this many units of the side
abbrev pub EndsAt : Aim → ℕ → Ending → Type 0
EndsAt at units Whole = ⊥
EndsAt at units (Unplaced passed) = IsUnitAt at.side units passed
EndsAt at units (TooWide passed) = IsUnitAt at.side units passed
EndsAt at units (Asked passed) = IsUnitAt at.side units passed × (at.last ≡ Some (passed.side, passed.unit))

abbrev pub MayEndAt : Aim → ℕ → Option Ending → Type 0
MayEndAt at units None = Unit {0}
MayEndAt at units (Some ending) = EndsAt at units ending

-- One unit is found at the front of some bytes, and passes; what is to come is the rest.
pub record PassesUnit (bytes rest : List ℕ) (old new : SideState) : Type 0 where
  pub kind : Kind
  pub strays : ℕ
  pub unit : List ℕ
  pub found : IsUnitFound bytes kind strays unit rest
  pub passes : PassUnits (message_of (Some kind) unit) old.units new.units
  pub empty : new.held ≡ []

-- how many units there were before, and the one that is found: the captures end with it
pub record EndsWithUnit (at : Aim) (bytes : List ℕ) (old new : SideState) (ending : Ending) : Type 0 where
  pub rest : List ℕ
  pub one : PassesUnit bytes rest old new
  pub ends : EndsAt at (old.units.count + length (message_of (Some one.kind) one.unit)) ending

-- no unit is found
pub record PassesNone (bytes : List ℕ) (old new : SideState) : Type 0 where
  pub strays : ℕ
  pub found : NoneFound bytes strays new.held
  pub units : new.units ≡ old.units

-- one turn over some bytes
abbrev pub TakesTurn : Aim → List ℕ → SideState → SideState → Next → Type 0
TakesTurn at bytes old new (next.Rest behind) = PassesUnit bytes behind.now old new
TakesTurn at bytes old new next.UsedUp = PassesNone bytes old new
TakesTurn at bytes old new (next.Ends ending) = EndsWithUnit at bytes old new ending

-- The units that were found in some bytes passed; what is to come after them.
pub record PassesFound (bytes come : List ℕ) (old new : SideState) : Type 0 where
  pub found : Framing
  pub framed : IsFramedSoFar bytes found come
  pub passes : PassUnits (messages found.units) old.units new.units

-- all of them, and the framer holds what is left
pub record PassesAll (bytes : List ℕ) (old new : SideState) : Type 0 where
  pub all : PassesFound bytes new.held old new
  pub left : framing new.held ≡ only_left new.held

-- some of them, with the last of which the captures end
pub record PassesSome (at : Aim) (bytes : List ℕ) (old new : SideState) (ending : Ending) : Type 0 where
  pub come : List ℕ
  pub some : PassesFound bytes come old new
  pub ends : EndsAt at (old.units.count + length (messages some.found.units)) ending

abbrev pub PassesBytes : Aim → List ℕ → SideState → SideState → Option Ending → Type 0
PassesBytes at bytes old new None = PassesAll bytes old new
PassesBytes at bytes old new (Some ending) = PassesSome at bytes old new ending

-- ---- what the other side is told of them

-- the units in some bytes, without maintenance messages
abbrev pub units_in : List ℕ → List (List ℕ)
units_in bytes = messages (framing bytes).units

-- It is told of the first of these units.
pub record TellsFirst (units : List (List ℕ)) (old new : Waiting) : Type 0 where
  pub told : List (List ℕ)
  pub untold : List (List ℕ)
  pub are : units ≡ told ++ untold
  pub moves : MovesOn [] told old new

-- It is told of all of them; where the captures end with the last one, maybe not of that one.
abbrev pub Tells : List (List ℕ) → Option Ending → Waiting → Waiting → Type 0
Tells units None old new = MovesOn [] units old new
Tells units (Some ending) old new = TellsFirst units old new

-- It is told of those in some bytes that are not in what is to come.
pub record TellsOn (bytes come : List ℕ) (old new : Waiting) : Type 0 where
  pub told : List (List ℕ)
  pub are : units_in bytes ≡ told ++ units_in come
  pub moves : MovesOn [] told old new

-- in one turn over some bytes
abbrev pub TellsNext : List ℕ → Next → Waiting → Waiting → Type 0
TellsNext bytes (next.Rest behind) old new = TellsOn bytes behind.now old new
TellsNext bytes next.UsedUp old new = MovesOn [] (units_in bytes) old new
TellsNext bytes (next.Ends ending) old new = TellsFirst (units_in bytes) old new
