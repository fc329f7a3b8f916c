-- What has a line: numbers in their ranges, and no more bytes than a line may hold.
use Rattle.std.specs.Prelude.{ℕ, ◌≤◌, List, [], length}
use Rattle.hex.specs.Hex.{IsBytes}
use Rattle.capture_record.specs.declared.limit.TheConstants.{MAX_HINT, MAX_LINK, MAX_UNIT, MAX_MESSAGE, MAX_PACKET, MAX_INTERRUPT}
use Rattle.capture_record.specs.declared.event.Event.{Event}
use Rattle.capture_record.specs.declared.event.Event.TheVariants.{Start, Halt, Open, Accept, Reject, In, Up, Close}
use Rattle.capture_record.specs.declared.event.Event.TheVariants.{Boot, Abort, Composed, Interrupt, Interrupted}
use Rattle.capture_record.specs.declared.record.Record.{Record}
use Rattle.capture_record.specs.declared.record.Record.TheVariants.{Sent, Received, Noise, User}

-- the address of a link
pub record IsLink (link : ℕ) : Type 0 where
  pub least : 1 ≤ link
  pub most : link ≤ MAX_LINK

-- the numbers of an event are in their ranges
abbrev pub EventNumbersFit : Event → Type 0
EventNumbersFit Start = Unit {0}
EventNumbersFit Halt = Unit {0}
EventNumbersFit (Open link) = IsLink link
EventNumbersFit (Accept partner link) = IsLink partner × IsLink link
EventNumbersFit (Reject partner link) = IsLink partner × IsLink link
EventNumbersFit (In link bytes) = IsLink link
EventNumbersFit (Up link bytes) = IsLink link
EventNumbersFit (Close link) = IsLink link
EventNumbersFit Boot = Unit {0}
EventNumbersFit (Abort link) = IsLink link
EventNumbersFit (Composed bytes) = Unit {0}
EventNumbersFit (Interrupt link bytes) = IsLink link
EventNumbersFit (Interrupted link bytes) = IsLink link

-- the message, the packet or the interrupt of an event
abbrev pub event_bytes : Event → List ℕ
event_bytes Start = []
event_bytes Halt = []
event_bytes (Open link) = []
event_bytes (Accept partner link) = []
event_bytes (Reject partner link) = []
event_bytes (In link bytes) = bytes
event_bytes (Up link bytes) = bytes
event_bytes (Close link) = []
event_bytes Boot = []
event_bytes (Abort link) = []
event_bytes (Composed bytes) = bytes
event_bytes (Interrupt link bytes) = bytes
event_bytes (Interrupted link bytes) = bytes

-- how many of these the line of an event may hold
abbrev pub most_of_event : Event → ℕ
most_of_event Start = MAX_MESSAGE
most_of_event Halt = MAX_MESSAGE
most_of_event (Open link) = MAX_MESSAGE
most_of_event (Accept partner link) = MAX_MESSAGE
most_of_event (Reject partner link) = MAX_MESSAGE
most_of_event (In link bytes) = MAX_MESSAGE
most_of_event (Up link bytes) = MAX_MESSAGE
most_of_event (Close link) = MAX_MESSAGE
most_of_event Boot = MAX_MESSAGE
most_of_event (Abort link) = MAX_MESSAGE
most_of_event (Composed bytes) = MAX_PACKET
most_of_event (Interrupt link bytes) = MAX_INTERRUPT
most_of_event (Interrupted link bytes) = MAX_INTERRUPT

-- the numbers of a record are in their ranges
abbrev pub NumbersFit : Record → Type 0
NumbersFit (Sent bytes) = Unit {0}
NumbersFit (Received hint fate bytes) = hint ≤ MAX_HINT
NumbersFit (Noise bytes) = Unit {0}
NumbersFit (User event) = EventNumbersFit event

-- the unit, the noise, or the bytes of the event of a record
abbrev pub record_bytes : Record → List ℕ
record_bytes (Sent bytes) = bytes
record_bytes (Received hint fate bytes) = bytes
record_bytes (Noise bytes) = bytes
record_bytes (User event) = event_bytes event

-- how many bytes the line of a record may hold
abbrev pub most_bytes : Record → ℕ
most_bytes (Sent bytes) = MAX_UNIT
most_bytes (Received hint fate bytes) = MAX_UNIT
most_bytes (Noise bytes) = MAX_UNIT
most_bytes (User event) = most_of_event event

-- a record that a line could spell, were BYTES of any length allowed
pub record HasSpelling (r : Record) : Type 0 where
  pub numbers : NumbersFit r
  pub bytes : IsBytes (record_bytes r)

-- its BYTES is no longer than allowed
abbrev pub IsShort : Record → Type 0
IsShort r = length (record_bytes r) ≤ most_bytes r

-- a record that has a line
pub record IsRecord (r : Record) : Type 0 where
  pub spelling : HasSpelling r
  pub short : IsShort r

-- an event that has a line
pub record IsEvent (event : Event) : Type 0 where
  pub numbers : EventNumbersFit event
  pub bytes : IsBytes (event_bytes event)
  pub short : length (event_bytes event) ≤ most_of_event event
