-- The first bytes of a record that are compared with those of its node, and the node's, as hexadecimal digits.
use Rattle.std.specs.Prelude.{ℕ, nat_le, if◌then◌else◌, Option, Some, None, Result, Ok, Err, List, [], length, take}
use Rattle.hex.specs.Hex.{encode_lower}
use Rattle.capture_record.specs.declared.entry.Entry.{Entry}
use Rattle.capture_record.specs.declared.entry.Entry.TheVariants as entries
use Rattle.dna_packet.specs.declared.fault.NspFault.{NspFault}
use Rattle.dna_packet.specs.Nsp.{NspValue, DataSegment}
use Rattle.dna_packet.specs.ReadingNsp.{nsp_at}
use Rattle.dna_packet.specs.ReadingPacket.{packet_at}
use Rattle.dna_links.specs.WireLinks.{WireLinks}
use Rattle.nsp_link.specs.Due.{due_at_links, due_to_user}
use Rattle.record_words.specs.Layers.{message_in_unit, message_of}
use Rattle.why.specs.declared.digits.Fronts as declared

-- the digits of both
pub record Fronts : Type 0 where
  pub seen : List ℕ
  pub due : List ℕ

-- as they are lent
abbrev pub fronts_told : declared.Fronts → Fronts
fronts_told f = record { seen = f.seen.now; due = f.due.now }

-- at most sixteen bytes are told
abbrev pub front_digits : List ℕ → List ℕ
front_digits bytes = if nat_le (length bytes) 16 then encode_lower bytes else encode_lower (take 16 bytes)

-- ---- what a segment carries, and what it is compared with

abbrev pub or_none : Option (List ℕ) → List ℕ
or_none None = []
or_none (Some bytes) = bytes

abbrev pub carried_by : NspValue → List ℕ
carried_by (DataSegment s) = s.body
carried_by m = []

abbrev pub carried_in : Result NspValue NspFault → List ℕ
carried_in (Ok m) = carried_by m
carried_in (Err fault) = []

abbrev pub due_by : WireLinks → NspValue → List ℕ
due_by links (DataSegment s) = or_none (due_at_links s links)
due_by links m = []

abbrev pub due_for : WireLinks → Result NspValue NspFault → List ℕ
due_for links (Ok m) = due_by links m
due_for links (Err fault) = []

-- the message in a record of this entry and these bytes: they are a unit's, or those of a packet that is never sent
abbrev pub message_by : Entry → List ℕ → Option (List ℕ)
message_by entries.Composed bytes = message_of (packet_at bytes)
message_by entry bytes = message_in_unit bytes

-- of that message, where there is one
abbrev pub in_message : (Result NspValue NspFault → List ℕ) → Option (List ℕ) → List ℕ
in_message of_message None = []
in_message of_message (Some message) = of_message (nsp_at message)

-- ---- of a record of this entry and these bytes

abbrev pub seen_bytes : Entry → List ℕ → List ℕ
seen_bytes (entries.Up own) bytes = bytes
seen_bytes entry bytes = in_message carried_in (message_by entry bytes)

abbrev pub due_bytes : WireLinks → Entry → List ℕ → List ℕ
due_bytes links (entries.Up own) bytes = or_none (due_to_user own links)
due_bytes links entry bytes = in_message (due_for links) (message_by entry bytes)

abbrev pub fronts : WireLinks → Entry → List ℕ → Fronts
fronts links entry bytes = record { seen = front_digits (seen_bytes entry bytes); due = front_digits (due_bytes links entry bytes) }
