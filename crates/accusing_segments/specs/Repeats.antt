-- Which data segment no right node sends, whether it drops packets or not: one that goes under a number again with other marks or other bytes, where
-- no link with the same addresses can have begun in between, and none that was sent under the number may be acknowledged.
use Rattle.std.specs.Prelude.{ℕ, Bool, false, ◌&&◌, ◌||◌, not, ◌==◌, if◌then◌else◌, Option, Some, None, List, [], ◌∷◌}
use Rattle.dna_packet.specs.Nsp.{SegmentValue, NspValue, DataSegment, ConnectInitiate, ConnectConfirm}
use Rattle.dna_links.specs.Segmentation.{Piece, piece_of, same_piece}
use Rattle.dna_links.specs.SegmentBook.{REACH}
use Rattle.accusing.specs.Placing.{Passed, Own, Other}
use Rattle.accusing_segments.specs.History.{Known, is_this, message_in, in_unit, by_other, History}
use Rattle.accusing_segments.specs.Wrong.{is_covered}

-- ---- what went first under a number

-- what a segment carries from the link `own` to the link `far` under a number, 0 to 4,095
abbrev pub Pieces : Type 0
Pieces = (own far number : ℕ) → Option Piece

abbrev pub piece_with : NspValue → Pieces
piece_with (DataSegment s) own far number =
    if s.srcaddr == own && (s.dstaddr == far && s.number == number) then Some (piece_of s) else None
piece_with other own far number = None

abbrev pub piece_in : Option NspValue → Pieces
piece_in None own far number = None
piece_in (Some message) own far number = piece_with message own far number

abbrev pub first_of : Option Piece → Option Piece → Option Piece
first_of None later = later
first_of (Some piece) later = Some piece

-- of the units of this side
abbrev pub first_sent : List Passed → Pieces
first_sent [] own far number = None
first_sent (Own unit ∷ passed) own far number = first_of (piece_in (message_in unit) own far number) (first_sent passed own far number)
first_sent (Other unit ∷ passed) own far number = first_sent passed own far number

-- ---- by which messages of the other side a link gets both addresses

-- a CI from the link `far`, where `own` is 0, or a CC from it to the link `own`; nothing further is known
abbrev pub calls : NspValue → Known
calls (ConnectInitiate retransmitted src services info segsize user_data) own far number what = is_this (0, src, 0, 0) own far number what
calls (ConnectConfirm dst src services info segsize user_data) own far number what = is_this (dst, src, 0, 0) own far number what
calls other own far number what = false

-- one passed, and another one after it
abbrev pub called_twice : List Passed → Known
called_twice [] own far number what = false
called_twice (Own unit ∷ passed) own far number what = called_twice passed own far number what
called_twice (Other unit ∷ passed) own far number what =
    (in_unit calls unit own far number what && by_other calls passed own far number what) || called_twice passed own far number what

pub record Repeats : Type 0 where
  pub firsts : Pieces
  pub called : Known
  pub again : Known

abbrev pub repeats : List Passed → Repeats
repeats passed = record { firsts = first_sent passed; called = by_other calls passed; again = called_twice passed }

-- ---- a segment

abbrev pub differs : Option Piece → Piece → Bool
differs None piece = false
differs (Some first) piece = not (same_piece piece first)

-- at most one link can have had these addresses: at most one CI or CC passed by which it gets them
abbrev pub is_one_link : Repeats → (own far : ℕ) → Bool
is_one_link r own far = not (r.again 0 far 0 0 || (r.again own far 0 0 || (r.called 0 far 0 0 && r.called own far 0 0)))

module _ (h : History) (r : Repeats) where
  abbrev pub is_changed : SegmentValue → Bool
  is_changed s =
      differs (r.firsts s.srcaddr s.dstaddr s.number) (piece_of s)
      && (is_one_link r s.srcaddr s.dstaddr && not (is_covered (λ n. h.words s.srcaddr s.dstaddr n 0) s.number REACH))

  abbrev pub is_changed_in : Option NspValue → Bool
  is_changed_in (Some (DataSegment s)) = is_changed s
  is_changed_in other = false

  -- by the units that passed before it
  abbrev pub is_changed_unit : List ℕ → Bool
  is_changed_unit unit = is_changed_in (message_in unit)
