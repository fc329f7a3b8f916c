-- Which unit of the other side each receipt of a capture gets.
use Rattle.std.specs.Prelude.{ℕ, ◌+◌, Bool, true, false, if◌then◌else◌, Option, Some, None, List, [], ◌∷◌}
use Rattle.std.specs.Str.{bytes_eq}
use Rattle.capture_record.specs.declared.record.Record.{Record}
use Rattle.capture_record.specs.declared.record.Record.TheVariants.{Sent, Received, Noise, User}
use Rattle.ddcmp_msg.specs.Reading.{ReadingValue, Sound, HeaderBad, DataBad, Malformed, reading}

abbrev pub shows_damage : ReadingValue → Bool
shows_damage (Sound message) = false
shows_damage HeaderBad = true
shows_damage DataBad = true
shows_damage (Malformed departure) = false

-- whether a receipt with these bytes may have been this unit: where they show damage it may have been any
abbrev pub fits : (received unit : List ℕ) → Bool
fits received unit = if shows_damage (reading received) then true else bytes_eq received unit

-- the number of the first unit among these records that the receipt may have been, and the records after it; the first of them all has this number
abbrev pub first_fit : (received : List ℕ) → (next : ℕ) → List Record → Option (ℕ × List Record)
first_fit received next [] = None
first_fit received next (Sent unit ∷ rs) = if fits received unit then Some (next, rs) else first_fit received (next + 1) rs
first_fit received next (Received hint fate bytes ∷ rs) = first_fit received next rs
first_fit received next (Noise bytes ∷ rs) = first_fit received next rs
first_fit received next (User event ∷ rs) = first_fit received next rs

-- where there is none, the next number, and no record is left
abbrev pub or_next : (next : ℕ) → Option (ℕ × List Record) → ℕ × List Record
or_next next (Some found) = found
or_next next None = (next, [])

-- The unit that a receipt gets, and the records of the other side after it, where the next unit is the first of these records and has this number
abbrev pub choice : (received : List ℕ) → (next : ℕ) → List Record → ℕ × List Record
choice received next other = or_next next (first_fit received next other)

-- The records of a capture, each receipt with the number of its unit: in their order, each later than the one before it
abbrev pub aligned : (next : ℕ) → (other : List Record) → List Record → List Record
aligned next other [] = []
aligned next other (Sent unit ∷ rs) = Sent unit ∷ aligned next other rs
aligned next other (Received hint fate bytes ∷ rs) =
    Received (choice bytes next other).0 fate bytes ∷ aligned ((choice bytes next other).0 + 1) (choice bytes next other).1 rs
aligned next other (Noise bytes ∷ rs) = Noise bytes ∷ aligned next other rs
aligned next other (User event ∷ rs) = User event ∷ aligned next other rs
