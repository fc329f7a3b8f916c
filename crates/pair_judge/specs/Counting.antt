-- Which records a summary counts where.
use Rattle.std.specs.Prelude.{ℕ, ◌+◌, Bool, true, false}
use Rattle.ddcmp_msg.specs.Reading.{ReadingValue, reading, Sound, HeaderBad, DataBad, Malformed}
use Rattle.capture_record.specs.Fates as fates
use Rattle.capture_record.specs.declared.record.Record.{Record}
use Rattle.capture_record.specs.declared.record.Record.TheVariants.{Sent, Received, Noise, User}
use Rattle.capture_record.specs.declared.event.Event.{Event}
use Rattle.capture_record.specs.declared.event.Event.TheVariants.{Start, Up}

abbrev pub is_received : Record → Bool
is_received (Sent bytes) = false
is_received (Received hint fate bytes) = true
is_received (Noise bytes) = true
is_received (User event) = false

-- a block check shows damage
abbrev pub shows_damage : ReadingValue → Bool
shows_damage (Sound message) = false
shows_damage HeaderBad = true
shows_damage DataBad = true
shows_damage (Malformed departure) = false

-- noise is damage, or it is not made
abbrev pub is_damaged : Record → Bool
is_damaged (Sent bytes) = false
is_damaged (Received hint fate bytes) = shows_damage (reading bytes)
is_damaged (Noise bytes) = true
is_damaged (User event) = false

abbrev pub is_kept : Record → Bool
is_kept (Sent bytes) = false
is_kept (Received hint fate bytes) = fates.is_kept fate
is_kept (Noise bytes) = false
is_kept (User event) = false

abbrev pub starts : Event → Bool
starts Start = true
starts event = false

abbrev pub is_start : Record → Bool
is_start (Sent bytes) = false
is_start (Received hint fate bytes) = false
is_start (Noise bytes) = false
is_start (User event) = starts event

-- a message is delivered
abbrev pub delivers : Event → Bool
delivers (Up link bytes) = true
delivers event = false

abbrev pub is_delivery : Record → Bool
is_delivery (Sent bytes) = false
is_delivery (Received hint fate bytes) = false
is_delivery (Noise bytes) = false
is_delivery (User event) = delivers event

-- the count, and one more where the fact holds
abbrev pub more_if : Bool → ℕ → ℕ
more_if true n = n + 1
more_if false n = n
