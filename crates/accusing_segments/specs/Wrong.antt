-- Which data segment no right node sends that sends all it composed: one that is no first segment of a link, and does not go on from one that was
-- sent before. One that goes again did so when it was sent first, and a link with the same addresses that begins later only makes more right.
use Rattle.std.specs.Prelude.{ℕ, zero, suc, ◌+◌, Bool, false, ◌&&◌, ◌||◌, not, ◌==◌, Option, Some, None, List, length}
use Rattle.dna_packet.specs.Nsp.{SegmentValue, NspValue, DataSegment}
use Rattle.dna_links.specs.SegmentBook.{REACH, wire}
use Rattle.accusing_segments.specs.History.{bit, message_in, History}

-- the number before one
abbrev pub before : ℕ → ℕ
before number = wire (number + 4095)

-- the other side acknowledged this number, or one so little above it
unfoldable pub is_covered : (ℕ → Bool) → ℕ → ℕ → Bool
is_covered named number zero = false
is_covered named number (suc count) = named (wire (number + count)) || is_covered named number count

abbrev pub is_first : SegmentValue → Bool
is_first s = s.number == 1 && s.begins

module _ (h : History) (s : SegmentValue) where
  -- one with this number was sent, and may be acknowledged: it is not asked then what goes again
  abbrev pub is_acknowledged : Bool
  is_acknowledged =
      (h.ends s.srcaddr s.dstaddr s.number 0 || h.ends s.srcaddr s.dstaddr s.number 1)
      && is_covered (λ n. h.words s.srcaddr s.dstaddr n 0) s.number REACH

  -- one with the number before was sent, which ended its message exactly if this one begins one
  abbrev pub is_next : Bool
  is_next = h.ends s.srcaddr s.dstaddr (before s.number) (bit s.begins)

  abbrev pub is_right : Bool
  is_right = is_first s || (is_next || is_acknowledged)

  -- a SEGSIZE passed for so many data bytes, in a CI of the link that this is for or in a CC from it
  abbrev pub is_short : Bool
  is_short = h.rooms 0 s.dstaddr (length s.body) 0 || h.rooms s.srcaddr s.dstaddr (length s.body) 0

  -- or it may be acknowledged: it is not asked then what goes again
  abbrev pub is_in_room : Bool
  is_in_room = is_short || is_covered (λ n. h.words s.srcaddr s.dstaddr n 0) s.number REACH

abbrev pub is_wrong_message : History → NspValue → Bool
is_wrong_message h (DataSegment s) = not (is_right h s)
is_wrong_message h other = false

abbrev pub is_wrong_in : History → Option NspValue → Bool
is_wrong_in h None = false
is_wrong_in h (Some message) = is_wrong_message h message

-- by the units that passed before it
abbrev pub is_wrong_unit : History → List ℕ → Bool
is_wrong_unit h unit = is_wrong_in h (message_in unit)

-- ---- longer than any SEGSIZE allows: that no right node sends, whether it drops packets or not

abbrev pub is_long_message : History → NspValue → Bool
is_long_message h (DataSegment s) = not (is_in_room h s)
is_long_message h other = false

abbrev pub is_long_in : History → Option NspValue → Bool
is_long_in h None = false
is_long_in h (Some message) = is_long_message h message

abbrev pub is_long_unit : History → List ℕ → Bool
is_long_unit h unit = is_long_in h (message_in unit)
