-- The text of a capture, in each format: each line's words, and the lines one after another.
use Rattle.std.specs.Prelude.{ℕ, ◌+◌, ◌-◌, ◌/◌, ◌%◌, ◌==◌, nat_le, if◌then◌else◌, List, [], ◌∷◌, ◌++◌, codes}
use Rattle.std.specs.Fmt.{decimal}
use Rattle.hex.specs.Hex.{encode_lower}
use Rattle.capture_record.specs.declared.event.Event.{Event}
use Rattle.capture_record.specs.declared.event.Event.TheVariants.{Start, Halt, Open, Accept, Reject, In, Up, Close}
use Rattle.capture_record.specs.declared.event.Event.TheVariants.{Boot, Abort, Composed, Interrupt, Interrupted}
use Rattle.capture_record.specs.declared.fate.Fate.{Fate}
use Rattle.capture_record.specs.declared.fate.Fate.TheVariants.{NotKept, Kept, Dropped}
use Rattle.capture_record.specs.declared.record.Record.{Record}
use Rattle.capture_record.specs.declared.record.Record.TheVariants.{Sent, Received, Noise, User}
use Rattle.capture.specs.declared.hint.HintForm.{HintForm}
use Rattle.capture.specs.declared.hint.HintForm.TheVariants.{Number, Distance, Wide, Part}
use Rattle.capture.specs.declared.format.Format.{Format}
use Rattle.capture.specs.declared.format.Format.TheVariants.{One, Two, Three}

-- BYTES: `-` for no bytes, else two digits for each, 0 to 9 and a to f
abbrev pub bytes_text : List ℕ → List ℕ
bytes_text [] = codes "-"
bytes_text (b ∷ bs) = encode_lower (b ∷ bs)

-- a node address: area.node
abbrev pub address_text : ℕ → List ℕ
address_text address = decimal (address / 1024) ++ 46 ∷ decimal (address % 1024)

-- the hint of a receipt: its number; or in format 2 its distance from the mark, with `-` before it where it lies below; in a part of a run 0 is
-- `-`, of a unit that was sent before the other capture begins, and any other is one more than the number of the other capture's `s` line
abbrev pub hint_text : HintForm → ℕ → List ℕ
hint_text Number hint = decimal hint
hint_text Wide hint = decimal hint
hint_text (Distance mark) hint = if nat_le mark hint then decimal (hint - mark) else 45 ∷ decimal (mark - hint)
hint_text Part hint = if hint == 0 then codes "-" else decimal (hint - 1)

-- two parts with one space between them
abbrev pub spaced : List ℕ → List ℕ → List ℕ
spaced first second = first ++ 32 ∷ second

-- the letter of a receipt's line, and a space
abbrev pub fate_front : Fate → List ℕ
fate_front NotKept = codes "r "
fate_front Kept = codes "k "
fate_front Dropped = codes "d "

-- the letter of an event's line, and a space
abbrev pub event_front : Event → List ℕ
event_front Start = codes "u "
event_front Halt = codes "u "
event_front (Open link) = codes "u "
event_front (Accept partner link) = codes "u "
event_front (Reject partner link) = codes "u "
event_front (In link bytes) = codes "u "
event_front (Up link bytes) = codes "u "
event_front (Close link) = codes "u "
event_front Boot = codes "u "
event_front (Abort link) = codes "u "
event_front (Composed bytes) = codes "x "
event_front (Interrupt link bytes) = codes "u "
event_front (Interrupted link bytes) = codes "u "

-- the line after these
abbrev pub event_text : Event → List ℕ
event_text Start = codes "start"
event_text Halt = codes "halt"
event_text (Open link) = codes "open " ++ decimal link
event_text (Accept partner link) = codes "accept " ++ spaced (decimal partner) (decimal link)
event_text (Reject partner link) = codes "reject " ++ spaced (decimal partner) (decimal link)
event_text (In link bytes) = codes "in " ++ spaced (decimal link) (bytes_text bytes)
event_text (Up link bytes) = codes "up " ++ spaced (decimal link) (bytes_text bytes)
event_text (Close link) = codes "close " ++ decimal link
event_text Boot = codes "boot"
event_text (Abort link) = codes "abort " ++ decimal link
event_text (Composed bytes) = bytes_text bytes
event_text (Interrupt link bytes) = codes "interrupt " ++ spaced (decimal link) (bytes_text bytes)
event_text (Interrupted link bytes) = codes "interrupted " ++ spaced (decimal link) (bytes_text bytes)

-- a record's line, without its LF
abbrev pub record_text : HintForm → Record → List ℕ
record_text form (Sent bytes) = codes "s " ++ bytes_text bytes
record_text form (Received hint fate bytes) = fate_front fate ++ spaced (hint_text form hint) (bytes_text bytes)
record_text form (Noise bytes) = codes "n " ++ bytes_text bytes
record_text form (User event) = event_front event ++ event_text event

-- the head's first words
abbrev pub format_text : Format → List ℕ
format_text One = codes "ddcap 1 "
format_text Two = codes "ddcap 2 "
format_text Three = codes "ddcap 3 "

-- the head, without its LF
abbrev pub head_text : Format → ℕ → ℕ → List ℕ
head_text format own peer = format_text format ++ spaced (address_text own) (address_text peer)

-- the head of a part of a run, without its LF
abbrev pub part_head_text : ℕ → ℕ → List ℕ
part_head_text own peer = codes "ddcap 4 " ++ spaced (address_text own) (spaced (address_text peer) (codes "part"))

-- a line is its text and one LF
abbrev pub ended : List ℕ → List ℕ
ended text = text ++ 10 ∷ []

abbrev pub head_line : Format → ℕ → ℕ → List ℕ
head_line format own peer = ended (head_text format own peer)

abbrev pub part_head_line : ℕ → ℕ → List ℕ
part_head_line own peer = ended (part_head_text own peer)

abbrev pub record_line : HintForm → Record → List ℕ
record_line form r = ended (record_text form r)

-- ---- the form of the hints, from line to line

-- each format's number
abbrev pub format_number : Format → ℕ
format_number One = 1
format_number Two = 2
format_number Three = 3

-- the format that has such hints; a part of a run has the lines of format 3, but for hints
abbrev pub format_of : HintForm → Format
format_of Number = One
format_of (Distance mark) = Two
format_of Wide = Three
format_of Part = Three

-- in format 2 the mark is 0 at first
abbrev pub first_form : Format → HintForm
first_form One = Number
first_form Two = Distance 0
first_form Three = Wide

-- the mark after a record's line: one more than the hint of a receipt, wherever that lies; other lines leave it
abbrev pub mark_after : ℕ → Record → ℕ
mark_after mark (Sent bytes) = mark
mark_after mark (Received hint fate bytes) = hint + 1
mark_after mark (Noise bytes) = mark
mark_after mark (User event) = mark

abbrev pub form_after : HintForm → Record → HintForm
form_after Number r = Number
form_after (Distance mark) r = Distance (mark_after mark r)
form_after Wide r = Wide
form_after Part r = Part

abbrev pub form_behind : HintForm → List Record → HintForm
form_behind form [] = form
form_behind form (r ∷ rs) = form_behind (form_after form r) rs

-- the lines of records, one after another
abbrev pub record_lines : HintForm → List Record → List ℕ
record_lines form [] = []
record_lines form (r ∷ rs) = record_line form r ++ record_lines (form_after form r) rs

-- the whole text of a head and records
abbrev pub capture_text : Format → ℕ → ℕ → List Record → List ℕ
capture_text format own peer rs = head_line format own peer ++ record_lines (first_form format) rs

-- the whole text of a head and records that are a part of a run
abbrev pub part_text : ℕ → ℕ → List Record → List ℕ
part_text own peer rs = part_head_line own peer ++ record_lines Part rs
