-- How the bytes of one direction of a line are cut into units (DDCMP 4.1, framing): by the bytes alone, from left to right.
use Rattle.std.specs.Prelude.{ℕ, zero, suc, ◌+◌, ◌-◌, ◌==◌, ◌||◌, nat_lt, Bool, if◌then◌else◌, Option, Some, None, List, [], ◌∷◌, ◌++◌, length, take}
use Rattle.wire_base.specs.BlockCheck.{is_good}
use Rattle.ddcmp_msg.specs.Spelling.{SOH, ENQ, DLE}
use Rattle.ddcmp_msg.specs.Reading.{count_of}
use Rattle.framer.specs.declared.kind.Kind.{Kind}
use Rattle.framer.specs.declared.kind.Kind.TheVariants.{Control, Data, Maintenance}
use Rattle.framer.specs.declared.front.Front.{Front}
use Rattle.framer.specs.declared.front.Front.TheVariants.{Between, Stray, Whole, Cut}

-- SYN, by which stations come into step, and the pad of an idle line
abbrev pub SYN : ℕ
SYN = 0x96

abbrev pub PAD : ℕ
PAD = 0xff

-- bytes that may come between units
abbrev pub is_between : ℕ → Bool
is_between byte = (byte == SYN) || (byte == PAD)

-- the kind of a unit that starts with this byte
abbrev pub kind_of : ℕ → Option Kind
kind_of byte =
    if byte == ENQ then Some Control
    else (if byte == SOH then Some Data
    else (if byte == DLE then Some Maintenance else None))

-- How many bytes a unit with this header has: a control message the eight of the header alone, the others the data and two bytes of check after
-- it. COUNT has 14 bits, so they are 16,393 at most.
abbrev pub unit_len : Kind → List ℕ → ℕ
unit_len Control header = 8
unit_len Data header = count_of header + 10
unit_len Maintenance header = count_of header + 10

-- Bytes whose first may start a unit of this kind: fewer than eight may be a header that is cut; with a bad check of the header the first is
-- stray; with a good one they begin with a unit, which is whole or cut. The check of the data is not asked.
abbrev pub front_of_kind : Kind → List ℕ → Front
front_of_kind kind bytes =
    if nat_lt (length bytes) 8 then Cut
    else (if is_good (take 8 bytes)
    then (if nat_lt (length bytes) (unit_len kind bytes) then Cut else Whole (unit_len kind bytes))
    else Stray)

abbrev pub front_from : Option Kind → List ℕ → Front
front_from None bytes = Stray
front_from (Some kind) bytes = front_of_kind kind bytes

-- what is at the front of some bytes
unfoldable pub front : List ℕ → Front
front [] = Cut
front (byte ∷ bytes) = if is_between byte then Between else front_from (kind_of byte) (byte ∷ bytes)

-- The units in order, how many bytes were stray, and the bytes that are left: none, or the beginning of a unit.
pub record Framing : Type 0 where
  pub units : List (List ℕ)
  pub strays : ℕ
  pub left : List ℕ

-- no unit and no stray byte
abbrev pub only_left : List ℕ → Framing
only_left bytes = record { units = []; strays = 0; left = bytes }

-- so many stray bytes first
abbrev pub behind_strays : ℕ → Framing → Framing
behind_strays strays f = record f { strays = strays + f.strays }

-- this unit first
abbrev pub behind_unit : List ℕ → Framing → Framing
behind_unit unit f = record f { units = unit ∷ f.units }

-- one framing, and after it the framing of what it left and what came then
abbrev pub joined : Framing → Framing → Framing
joined f g = record g { units = f.units ++ g.units; strays = f.strays + g.strays }

-- by what is at the front: what is found after the first byte, and after so many bytes more
abbrev pub from_front : Front → List ℕ → (ℕ → Framing) → Framing
from_front Between bytes behind = behind 0
from_front Stray bytes behind = behind_strays 1 (behind 0)
from_front (Whole len) bytes behind = behind_unit (take len bytes) (behind (len - 1))
from_front Cut bytes behind = only_left bytes

-- after so many bytes, which are a unit's
abbrev pub framing_behind : List ℕ → ℕ → Framing
framing_behind [] len = only_left []
framing_behind (byte ∷ bytes) zero = from_front (front (byte ∷ bytes)) (byte ∷ bytes) (framing_behind bytes)
framing_behind (byte ∷ bytes) (suc len) = framing_behind bytes len

-- the framing of some bytes
unfoldable pub framing : List ℕ → Framing
framing bytes = framing_behind bytes 0

-- ---- where the units are

-- a unit, and how many bytes come before it
pub record UnitAt : Type 0 where
  pub place : ℕ
  pub unit : List ℕ

abbrev pub unit_at : ℕ → List ℕ → UnitAt
unit_at place unit = record { place = place; unit = unit }

-- by what is at the front, after so many bytes
abbrev pub at_front : Front → ℕ → List ℕ → (ℕ → List UnitAt) → List UnitAt
at_front Between place bytes behind = behind 0
at_front Stray place bytes behind = behind 0
at_front (Whole len) place bytes behind = unit_at place (take len bytes) ∷ behind (len - 1)
at_front Cut place bytes behind = []

abbrev pub units_behind : ℕ → List ℕ → ℕ → List UnitAt
units_behind place [] len = []
units_behind place (byte ∷ bytes) zero = at_front (front (byte ∷ bytes)) place (byte ∷ bytes) (units_behind (place + 1) bytes)
units_behind place (byte ∷ bytes) (suc len) = units_behind (place + 1) bytes len

-- the units of the framing of some bytes, before which so many come
unfoldable pub units_at : ℕ → List ℕ → List UnitAt
units_at place bytes = units_behind place bytes 0
