-- Whether a record has a line in a capture, as a test: its numbers and its bytes are in their ranges, and its BYTES is no longer than a line may
-- hold.
use Rattle.std.specs.Prelude.{ℕ, Bool, true, ◌&&◌, nat_lt, nat_le, List, [], ◌∷◌, length}
use Rattle.capture_record.specs.declared.limit.TheConstants.{MAX_HINT, MAX_LINK}
use Rattle.capture_record.specs.declared.event.Event.{Event}
use Rattle.capture_record.specs.declared.event.Event.TheVariants.{Start, Halt, Open, Accept, Reject, In, Up, Close}
use Rattle.capture_record.specs.declared.event.Event.TheVariants.{Boot, Abort, Composed, Interrupt, Interrupted}
use Rattle.capture_record.specs.declared.record.Record.{Record}
use Rattle.capture_record.specs.declared.record.Record.TheVariants.{Sent, Received, Noise, User}
use Rattle.capture_record.specs.Range.{record_bytes, most_bytes}

abbrev pub is_link : ℕ → Bool
is_link link = nat_le 1 link && nat_le link MAX_LINK

abbrev pub event_numbers_fit : Event → Bool
event_numbers_fit Start = true
event_numbers_fit Halt = true
event_numbers_fit (Open link) = is_link link
event_numbers_fit (Accept partner link) = is_link partner && is_link link
event_numbers_fit (Reject partner link) = is_link partner && is_link link
event_numbers_fit (In link bytes) = is_link link
event_numbers_fit (Up link bytes) = is_link link
event_numbers_fit (Close link) = is_link link
event_numbers_fit Boot = true
event_numbers_fit (Abort link) = is_link link
event_numbers_fit (Composed bytes) = true
event_numbers_fit (Interrupt link bytes) = is_link link
event_numbers_fit (Interrupted link bytes) = is_link link

abbrev pub numbers_fit : Record → Bool
numbers_fit (Sent bytes) = true
numbers_fit (Received hint fate bytes) = nat_le hint MAX_HINT
numbers_fit (Noise bytes) = true
numbers_fit (User event) = event_numbers_fit event

abbrev pub are_bytes : List ℕ → Bool
are_bytes [] = true
are_bytes (byte ∷ bytes) = nat_lt byte 256 && are_bytes bytes

abbrev pub has_line : Record → Bool
has_line r = numbers_fit r && (are_bytes (record_bytes r) && nat_le (length (record_bytes r)) (most_bytes r))
