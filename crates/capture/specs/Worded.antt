-- Steps between the words of a line and its record.
use Rattle.std.specs.Prelude.{ℕ, nat_lt, if◌then◌else◌, List, Option, Some, None, Result, Ok, Err}
use Rattle.std.specs.Option.{option_map}
use Rattle.capture_record.specs.declared.limit.TheConstants.{MAX_MESSAGE}
use Rattle.capture_record.specs.declared.event.Event.{Event}
use Rattle.capture_record.specs.declared.record.Record.{Record}
use Rattle.capture_record.specs.declared.record.Record.TheVariants.{User}
use Rattle.capture.specs.declared.fault.Departure.{Departure}
use Rattle.capture.specs.declared.fault.Departure.TheVariants.{Syntax}
use Rattle.capture.specs.Reading.{◌>>=◌, bytes_at, number_at}

-- an event as a record
abbrev pub as_record : Result Event Departure → Result Record Departure
as_record read = read >>= λ event. Ok (User event)

-- what a link and the text of at most `most` bytes are read as
abbrev pub messaged_within : (most : ℕ) → Option (ℕ × List ℕ) → Result (ℕ × List ℕ) Departure
messaged_within most None = Err Syntax
messaged_within most (Some (link, text)) = bytes_at most text >>= λ bytes. Ok (link, bytes)

-- the same of a message
abbrev pub messaged : Option (ℕ × List ℕ) → Result (ℕ × List ℕ) Departure
messaged read = messaged_within MAX_MESSAGE read

-- a number of at most `most` and what follows it, of these two parts
abbrev pub numbered : ℕ → Option (List ℕ × List ℕ) → Option (ℕ × List ℕ)
numbered most None = None
numbered most (Some parts) = option_map (λ number. (number, parts.1)) (number_at most parts.0)

-- the address of a link, which is no 0, and what follows it
abbrev pub linked : Option (ℕ × List ℕ) → Option (ℕ × List ℕ)
linked None = None
linked (Some parts) = if nat_lt 0 parts.0 then Some parts else None
