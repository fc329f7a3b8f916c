-- The bytes that a framer holds.
use Rattle.std.specs.Prelude.{◌≡◌, ℕ, ◌<◌, ◌≤◌, ◌⊎◌, Option, Some, None, List, length, take, slice_index}
use Rattle.framer.specs.declared.room.Room.TheInside.{Inside}
use Rattle.framer.specs.declared.limit.TheConstants.{MAX_FRAME}
use Rattle.framer.specs.declared.kind.Kind.{Kind}
use Rattle.framer.specs.declared.front.Front.{Front}
use Rattle.framer.specs.declared.front.Front.TheVariants.{Whole, Cut}
use Rattle.framer.specs.Framing.{front, kind_of}
use Rattle.framer.specs.Given.{FramerState}

-- the bytes at the front of the room, and the unit that was there
abbrev pub held_in : Inside → FramerState
held_in room = record { held = take room.len room.bytes.items; completed = take room.completed room.bytes.items }

pub record IsRoom (room : Inside) : Type 0 where
  pub size : length room.bytes.items ≡ MAX_FRAME
  pub within : room.len ≤ MAX_FRAME
  pub completed : room.completed ≤ MAX_FRAME

-- none, or the beginning of a unit
pub record IsHeld (bytes : List ℕ) : Type 0 where
  pub cut : front bytes ≡ Cut
  pub short : length bytes < MAX_FRAME

-- none, or the beginning of a unit, or a unit and nothing after it
abbrev pub IsBegun : List ℕ → Type 0
IsBegun bytes = (front bytes ≡ Cut) ⊎ (front bytes ≡ Whole (length bytes))

-- a unit of this kind, whole and with nothing after it, or the beginning of one
abbrev pub Completes : List ℕ → Option Kind → Type 0
Completes bytes (Some kind) = (front bytes ≡ Whole (length bytes)) × (kind_of (slice_index bytes 0) ≡ Some kind)
Completes bytes None = IsHeld bytes

-- what is at a place: a whole unit of this length, or one that is cut or nothing
abbrev pub StandsAt : Front → Option ℕ → Type 0
StandsAt found (Some len) = found ≡ Whole len
StandsAt found None = found ≡ Cut
