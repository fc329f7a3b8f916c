-- What passed of the other side, by what its messages show; and of that the data segments.
use Rattle.std.specs.Prelude.{ℕ, Bool, false, ◌&&◌, ◌||◌, ◌==◌, Option, Some, None, List, [], ◌∷◌, Result, Ok}
use Rattle.std.specs.List.{list_any}
use Rattle.ddcmp_msg.specs.Message.{Data}
use Rattle.ddcmp_msg.specs.Reading.{ReadingValue, reading, Sound}
use Rattle.dna_packet.specs.Nsp.{NspValue, DataSegment}
use Rattle.dna_station.specs.declared.refusal.StepRefusal.{StepRefusal}
use Rattle.dna_links.specs.Links.{Carried}
use Rattle.dna_node.specs.Content.{content}
use Rattle.accusing.specs.Placing.{Passed, Own, Other}

-- whether three numbers are shown
abbrev pub Shown : Type 0
Shown = (first second third : ℕ) → Bool

-- these three are; those of a list
abbrev pub is_this : ℕ × ℕ × ℕ → Shown
is_this id first second third = id.0 == first && (id.1 == second && id.2 == third)

abbrev pub has : List (ℕ × ℕ × ℕ) → Shown
has ids first second third = list_any (λ (id : ℕ × ℕ × ℕ). is_this id first second third) ids

-- the packet in a data unit
abbrev pub packet_in : ReadingValue → Option (List ℕ)
packet_in (Sound (Data flags resp num body)) = Some body
packet_in other = None

-- by what a message shows
module _ (of : NspValue → Shown) where
  abbrev pub shown_in : Result (Option Carried) StepRefusal → Shown
  shown_in (Ok (Some packet)) first second third = of packet.message first second third
  shown_in other first second third = false

  abbrev pub shown_by : Option (List ℕ) → Shown
  shown_by None first second third = false
  shown_by (Some packet) first second third = shown_in (content packet) first second third

  -- a unit of the other side shows them
  abbrev pub passed_of : List Passed → Shown
  passed_of [] first second third = false
  passed_of (Own unit ∷ passed) first second third = passed_of passed first second third
  passed_of (Other unit ∷ passed) first second third =
      shown_by (packet_in (reading unit)) first second third || passed_of passed first second third

-- a data segment: the link that it is for (DSTADDR), the one that it is from (SRCADDR), and its number, SEGNUM modulo 4,096
abbrev pub segment_of : NspValue → Shown
segment_of (DataSegment s) own far number = is_this (s.dstaddr, s.srcaddr, s.number) own far number
segment_of other own far number = false
