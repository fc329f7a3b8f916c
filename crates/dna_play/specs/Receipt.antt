-- What comes to an end of the player off the line: the message of the links in it, what is whole then, and how a unit is damaged.
use Rattle.std.specs.Prelude.{ℕ, Bool, true, ◌&&◌, nat_lt, nat_le, bit_xor, if◌then◌else◌, Option, Some, None, List, [], ◌∷◌, ◌++◌, length}
use Rattle.std.specs.Prelude.{slice_index, slice_set, Result, Ok}
use Rattle.ddcmp_msg.specs.Reading.{ReadingValue, Sound}
use Rattle.dna_packet.specs.Nsp.{NspValue}
use Rattle.dna_station.specs.declared.refusal.StepRefusal.{StepRefusal}
use Rattle.dna_station.specs.Book.{body_of}
use Rattle.dna_links.specs.Segmentation.{Piece}
use Rattle.dna_links.specs.Links.{Carried}
use Rattle.dna_node.specs.Content.{content}

-- messages that are complete, from the first that was not delivered on, where these data begin it
abbrev pub complete : (begun : List ℕ) → List (Option Piece) → List (List ℕ)
complete begun [] = []
complete begun (None ∷ later) = []
complete begun (Some p ∷ later) = if p.ends then (begun ++ p.body) ∷ complete [] later else complete (begun ++ p.body) later

-- the message of the links in a packet that was kept
abbrev pub carried_in : Result (Option Carried) StepRefusal → Option NspValue
carried_in (Ok (Some packet)) = Some packet.message
carried_in read = None

abbrev pub carried : (kept : Bool) → ReadingValue → Option NspValue
carried true (Sound m) = carried_in (content (body_of m))
carried kept read = None

-- a byte inside the unit is changed by a value from 1 to 255
abbrev pub is_damage : (place value : ℕ) → List ℕ → Bool
is_damage place value bytes = nat_lt place (length bytes) && (nat_le 1 value && nat_le value 255)

abbrev pub damaged : (place value : ℕ) → List ℕ → List ℕ
damaged place value bytes = slice_set bytes place (bit_xor (slice_index bytes place) value)
