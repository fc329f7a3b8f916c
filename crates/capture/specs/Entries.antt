-- What the text of a line is read as: a record in two parts, what its line says beside BYTES, and the bytes.
use Rattle.std.specs.Prelude.{ℕ, List, [], take, Option, Some, None, Result, Ok, Err}
use Rattle.capture_record.specs.declared.entry.Entry.{Entry}
use Rattle.capture_record.specs.declared.record.Record.{Record}
use Rattle.capture_record.specs.Entries.{limit_of, record_with}
use Rattle.capture.specs.declared.fault.CaptureFault.{CaptureFault}
use Rattle.capture.specs.declared.fault.Departure.{Departure}
use Rattle.capture.specs.declared.fault.Departure.TheVariants.{Syntax}
use Rattle.capture.specs.Reading.{◌>>=◌, bytes_at}

-- the bytes that this text spells, if there is to be any
abbrev pub bytes_within : Option ℕ → List ℕ → Result (List ℕ) Departure
bytes_within (Some most) text = bytes_at most text
bytes_within None text = Ok []

-- what an entry and the text of its BYTES are read as
abbrev pub told : Option (Entry × List ℕ) → Result Record Departure
told None = Err Syntax
told (Some (entry, text)) = bytes_within (limit_of entry) text >>= λ bytes. Ok (record_with entry bytes)

-- what a line that was read gives, with the bytes that were written beside it
abbrev pub recorded : List ℕ → Result (Option Entry) CaptureFault → Result (Option Record) CaptureFault
recorded bytes (Ok (Some entry)) = Ok (Some (record_with entry bytes))
recorded bytes (Ok None) = Ok None
recorded bytes (Err fault) = Err fault

-- as many bytes at the front as were written there, where none departed
abbrev pub front_of : {E : Type 0} → List ℕ → Result ℕ E → Result (List ℕ) E
front_of room (Ok len) = Ok (take len room)
front_of room (Err fault) = Err fault

-- the record in two parts, the bytes at the front of the room
abbrev pub parted : {E : Type 0} → List ℕ → Result (Entry × ℕ) E → Result Record E
parted room (Ok (entry, len)) = Ok (record_with entry (take len room))
parted room (Err fault) = Err fault

-- the same of a line that may be the end
abbrev pub recorded_in : List ℕ → Result (Option (Entry × ℕ)) CaptureFault → Result (Option Record) CaptureFault
recorded_in room (Ok (Some (entry, len))) = Ok (Some (record_with entry (take len room)))
recorded_in room (Ok None) = Ok None
recorded_in room (Err fault) = Err fault
