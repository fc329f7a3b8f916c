-- The units of one side that may still come.
use Rattle.std.specs.Prelude.{ℕ, ◌+◌, ◌-◌, ◌^◌, List, [], ◌∷◌, ◌++◌, Option, None, length, drop, min, nat_lt, if◌then◌else◌}
use Rattle.std.specs.List.{slice_get}
use Rattle.ladder.specs.declared.told.Sending.{Sending}

-- how many can't come any more, and how each of the others was sent, by their numbers
pub record Way : Type 0 where
  pub gone : ℕ
  pub units : List Sending

abbrev pub way : ℕ → List Sending → Way
way gone units = record { gone = gone; units = units }

-- how many were sent: the next one has this number
abbrev pub sent_units : Way → ℕ
sent_units w = w.gone + length w.units

-- how the unit with this number was sent, where it may still come
abbrev pub sending_of : Way → ℕ → Option Sending
sending_of w number = if nat_lt number w.gone then None else slice_get w.units (number - w.gone)

-- one more unit was sent
abbrev pub with_unit : Way → Sending → Way
with_unit w sending = way w.gone (w.units ++ sending ∷ [])

-- one more unit was sent, and of none that was sent so far it is known how
abbrev pub skipped : Way → Way
skipped w = way (min (sent_units w) (2 ^ 63 - 1) + 1) []

-- how many of those that may still come have a number up to this one, which is a hint if it is below 2 ^ 63
abbrev pub passed_by : Way → ℕ → ℕ
passed_by w number = min (min (number + 1) (2 ^ 63) - w.gone) (length w.units)

-- a unit with this number came: it can't come any more, nor can those before it
abbrev pub passed : Way → ℕ → Way
passed w number = way (w.gone + passed_by w number) (drop (passed_by w number) w.units)
