-- What a contract sees of a framer, and what one call of it finds.
use Rattle.std.specs.Prelude.{◌≡◌, ℕ, ◌+◌, ◌-◌, ◌<◌, ◌≤◌, List, [], ◌∷◌, ◌++◌, length, slice_index, Some}
use Rattle.framer.specs.declared.kind.Kind.{Kind}
use Rattle.framer.specs.declared.framer.Found.{Found}
use Rattle.framer.specs.declared.framer.Found.TheVariants as found
use Rattle.framer.specs.Framing.{kind_of, framing, only_left, behind_strays, behind_unit, unit_at, units_at}

-- the bytes that are held, and the unit that was completed last
pub record FramerState : Type 0 where
  pub held : List ℕ
  pub completed : List ℕ

abbrev pub EndsWith : List ℕ → List ℕ → Type 0
EndsWith bytes behind = (before : List ℕ) × (bytes ≡ before ++ behind)

-- So many stray bytes are passed over, with any SYN and pads among them, and these bytes follow.
pub record Passes (bytes : List ℕ) (strays : ℕ) (behind : List ℕ) : Type 0 where
  pub framed : framing bytes ≡ behind_strays strays (framing behind)
  pub ends : EndsWith bytes behind
  pub places : (place : ℕ) → units_at place bytes ≡ units_at (place + (length bytes - length behind)) behind

-- So many stray bytes are passed over, then this unit comes, of this kind, and then the rest.
pub record IsUnitFound (bytes : List ℕ) (kind : Kind) (strays : ℕ) (unit rest : List ℕ) : Type 0 where
  pub passed : Passes bytes strays (unit ++ rest)
  pub framed : framing (unit ++ rest) ≡ behind_unit unit (framing rest)
  pub places : (place : ℕ) → units_at place (unit ++ rest) ≡ unit_at place unit ∷ units_at (place + length unit) rest
  pub kind_is : kind_of (slice_index unit 0) ≡ Some kind
  pub shorter : length rest < length bytes

-- So many stray bytes are passed over, and what is held is left after them.
pub record NoneFound (bytes : List ℕ) (strays : ℕ) (held : List ℕ) : Type 0 where
  pub passed : Passes bytes strays held
  pub left : framing held ≡ only_left held

-- What was found in what was held and a piece after it: a unit, in the piece or completed, after which nothing is held; or no whole unit.
abbrev pub Finds : List ℕ → FramerState → Found → Type 0
Finds bytes state (found.Unit kind strays unit rest) = IsUnitFound bytes kind strays unit.now rest.now × (state.held ≡ [])
Finds bytes state (found.Completed kind strays rest) = IsUnitFound bytes kind strays state.completed rest.now × (state.held ≡ [])
Finds bytes state (found.More strays) = NoneFound bytes strays state.held

-- what follows a unit is some of the piece, which has so many bytes
abbrev pub RestIsOf : ℕ → Found → Type 0
RestIsOf len (found.Unit kind strays unit rest) = length rest.now ≤ len
RestIsOf len (found.Completed kind strays rest) = length rest.now ≤ len
RestIsOf len (found.More strays) = Unit {0}
