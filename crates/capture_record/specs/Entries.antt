-- A record in two parts: what its line says beside its bytes, and the bytes.
use Rattle.std.specs.Prelude.{ℕ, List, Option, Some, None}
use Rattle.capture_record.specs.declared.limit.TheConstants.{MAX_UNIT, MAX_MESSAGE, MAX_PACKET, MAX_INTERRUPT}
use Rattle.capture_record.specs.declared.entry.Entry.{Entry}
use Rattle.capture_record.specs.declared.entry.Entry.TheVariants as entries
use Rattle.capture_record.specs.declared.event.Event.TheVariants as events
use Rattle.capture_record.specs.declared.record.Record.{Record}
use Rattle.capture_record.specs.declared.record.Record.TheVariants.{Sent, Received, Noise, User}

-- the record of an entry and the bytes beside it
abbrev pub record_with : Entry → List ℕ → Record
record_with entries.Sent bytes = Sent bytes
record_with (entries.Received fate hint) bytes = Received hint fate bytes
record_with entries.Noise bytes = Noise bytes
record_with entries.Start bytes = User events.Start
record_with entries.Halt bytes = User events.Halt
record_with (entries.Open link) bytes = User (events.Open link)
record_with (entries.Accept partner link) bytes = User (events.Accept partner link)
record_with (entries.Reject partner link) bytes = User (events.Reject partner link)
record_with (entries.In link) bytes = User (events.In link bytes)
record_with (entries.Up link) bytes = User (events.Up link bytes)
record_with (entries.Close link) bytes = User (events.Close link)
record_with entries.Boot bytes = User events.Boot
record_with (entries.Abort link) bytes = User (events.Abort link)
record_with entries.Composed bytes = User (events.Composed bytes)
record_with (entries.Interrupt link) bytes = User (events.Interrupt link bytes)
record_with (entries.Interrupted link) bytes = User (events.Interrupted link bytes)

-- the most bytes beside an entry, where its line has any
abbrev pub limit_of : Entry → Option ℕ
limit_of entries.Sent = Some MAX_UNIT
limit_of (entries.Received fate hint) = Some MAX_UNIT
limit_of entries.Noise = Some MAX_UNIT
limit_of entries.Start = None
limit_of entries.Halt = None
limit_of (entries.Open link) = None
limit_of (entries.Accept partner link) = None
limit_of (entries.Reject partner link) = None
limit_of (entries.In link) = Some MAX_MESSAGE
limit_of (entries.Up link) = Some MAX_MESSAGE
limit_of (entries.Close link) = None
limit_of entries.Boot = None
limit_of (entries.Abort link) = None
limit_of entries.Composed = Some MAX_PACKET
limit_of (entries.Interrupt link) = Some MAX_INTERRUPT
limit_of (entries.Interrupted link) = Some MAX_INTERRUPT
