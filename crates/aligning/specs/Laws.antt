-- What is true of every alignment.
use Rattle.std.specs.Prelude.{ℕ, ◌+◌, ◌≤◌, List, [], ◌∷◌}
use Rattle.capture_record.specs.declared.record.Record.{Record}
use Rattle.capture_record.specs.declared.record.Record.TheVariants.{Sent, Received, Noise, User}

-- a record except for its hint
abbrev pub without_hint : Record → Record
without_hint (Sent unit) = Sent unit
without_hint (Received hint fate bytes) = Received 0 fate bytes
without_hint (Noise bytes) = Noise bytes
without_hint (User event) = User event

-- each hint is above the one before it, and the first is no less than this number
abbrev pub HintsRise : ℕ → List Record → Type 0
HintsRise least [] = Unit {0}
HintsRise least (Sent unit ∷ rs) = HintsRise least rs
HintsRise least (Received hint fate bytes ∷ rs) = (least ≤ hint) × HintsRise (hint + 1) rs
HintsRise least (Noise bytes ∷ rs) = HintsRise least rs
HintsRise least (User event ∷ rs) = HintsRise least rs
