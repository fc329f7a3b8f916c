-- What is delivered at once, as lines at the end of a text.
use Rattle.std.specs.Prelude.{ℕ, ◌++◌, ◌<◌, if◌then◌else◌, Option, Some, None, List, [], length}
use Rattle.std.specs.List.{flat_map}
use Rattle.capture_record.specs.declared.event.Event.TheVariants.{Up}
use Rattle.capture_record.specs.declared.record.Record.TheVariants.{User}
use Rattle.capture_record.specs.declared.limit.TheConstants.{MAX_MESSAGE}
use Rattle.capture.specs.declared.hint.HintForm.TheVariants.{Number}
use Rattle.capture.specs.Text.{record_line, record_lines}
use Rattle.dna_packet.specs.Nsp.{NspValue}
use Rattle.dna_links.specs.Segmentation.{Piece}
use Rattle.dna_play.specs.Receipt.{complete}
use Rattle.dna_play.specs.StoredEnd.{StoredLinks}
use Rattle.dna_play.specs.StoredLinks.{Delivering}
use Rattle.dna_play.specs.StoredPlay.{all_short, arrived, ups, up_address}
use Rattle.player_end.specs.declared.fault.StepFault.{StepFault}
use Rattle.player_end.specs.declared.fault.StepFault.TheVariants.{BadStep, Full, OutOfMemory}

-- the links, and the text with a line of each message that is delivered, if each has one
abbrev pub delivers_at : (own : ℕ) → (text : List ℕ) → Delivering → Option (StoredLinks × List ℕ)
delivers_at own text d = if all_short d.messages then Some (d.links, text ++ record_lines Number (ups own d.messages)) else None

abbrev pub delivers : NspValue → (text : List ℕ) → Delivering → Option (StoredLinks × List ℕ)
delivers m text d = delivers_at (up_address (Some m)) text d

-- the same of the message in a packet that was kept, if there is one
abbrev pub arrives_as : Option NspValue → (text : List ℕ) → StoredLinks → Option (StoredLinks × List ℕ)
arrives_as message text s = delivers_at (up_address message) text (arrived message s)

-- the text with the lines of the messages that are whole at the front of these pieces, if each has one
abbrev pub lines_of : (own : ℕ) → (text : List ℕ) → List (Option Piece) → Option (List ℕ)
lines_of own text pieces = if all_short (complete [] pieces) then Some (text ++ record_lines Number (ups own (complete [] pieces))) else None

-- the data of pieces, one after the other
abbrev pub body_in : Option Piece → List ℕ
body_in None = []
body_in (Some p) = p.body

abbrev pub bodies : List (Option Piece) → List ℕ
bodies pieces = flat_map body_in pieces

abbrev pub up_line : (own : ℕ) → (message : List ℕ) → List ℕ
up_line own message = record_line Number (User (Up own message))

-- the step is bad since this message has no line; or memory was refused
abbrev pub IsTooLong : (message : List ℕ) → StepFault → Type 0
IsTooLong message BadStep = MAX_MESSAGE < length message
IsTooLong message Full = ⊥
IsTooLong message OutOfMemory = Unit {0}
