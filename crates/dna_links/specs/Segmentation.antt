-- Messages and the pieces of them that segments carry (NSP 4.0, data segment format).
use Rattle.std.specs.Prelude.{ℕ, zero, suc, ◌+◌, Bool, true, false, ◌&&◌, ◌||◌, not, ◌==◌, if◌then◌else◌, nat_le, Option, Some, None, is_some, List}
use Rattle.std.specs.Prelude.{[], ◌∷◌, ◌++◌, length, take, drop}
use Rattle.std.specs.List.{prefix_len}
use Rattle.std.specs.Str.{bytes_eq}
use Rattle.dna_packet.specs.Nsp.{SegmentValue}

-- What a segment carries: whether it begins a message and whether it ends one (bits 5 and 6 of the flag byte), and its data
pub record Piece : Type 0 where
  pub begins : Bool
  pub ends : Bool
  pub body : List ℕ

abbrev pub piece_of : SegmentValue → Piece
piece_of s = record { begins = s.begins; ends = s.ends; body = s.body }

abbrev pub alike : Bool → Bool → Bool
alike true test = test
alike false test = not test

-- the same flag byte and the same data
abbrev pub same_piece : Piece → Piece → Bool
same_piece p q = alike p.begins q.begins && (alike p.ends q.ends && bytes_eq p.body q.body)

-- ---- what was handed in and is in no segment yet

-- The rest of the current message and the messages after it; `begun` tells that a segment has begun the current one
pub record Unsent : Type 0 where
  pub begun : Bool
  pub messages : List (List ℕ)

abbrev pub none_unsent : Unsent
none_unsent = record { begun = false; messages = [] }

abbrev pub with_message : List ℕ → Unsent → Unsent
with_message message u = record u { messages = u.messages ++ message ∷ [] }

-- The next bytes of the current message, of which `rest` is left: the piece begins it exactly if nothing has begun it, ends it exactly
-- if nothing is left after it, and is empty only for an empty message
abbrev pub is_piece_of : Piece → Bool → List ℕ → Bool
is_piece_of p begun rest =
    bytes_eq p.body (take (length p.body) rest)
    && (alike p.begins (not begun) && (alike p.ends (length p.body == length rest) && (not (length p.body == 0) || length rest == 0)))

abbrev pub is_next_of : Piece → Bool → List (List ℕ) → Bool
is_next_of p begun [] = false
is_next_of p begun (rest ∷ later) = is_piece_of p begun rest

abbrev pub is_next_piece : Piece → Unsent → Bool
is_next_piece p u = is_next_of p u.begun u.messages

-- what is left when the next piece is given
abbrev pub left_of : Piece → List (List ℕ) → Unsent
left_of p [] = none_unsent
left_of p (rest ∷ later) =
    if p.ends then record { begun = false; messages = later } else record { begun = true; messages = drop (length p.body) rest ∷ later }

abbrev pub without_piece : Piece → Unsent → Unsent
without_piece p u = left_of p u.messages

-- whether anything is left to be sent
abbrev pub has_more : List (List ℕ) → Bool
has_more [] = false
has_more (message ∷ later) = true

-- ---- how the player cuts; a judge takes any pieces

-- SEGSIZE: how many data bytes a segment of the player carries at most
abbrev pub SEGSIZE : ℕ
SEGSIZE = 512

-- the next piece of what was handed in: 512 bytes of the current message, or all that is left of it
abbrev pub piece_with : Bool → List ℕ → Piece
piece_with begun rest = record { begins = not begun; ends = nat_le (length rest) SEGSIZE; body = take SEGSIZE rest }

abbrev pub next_piece_of : Bool → List (List ℕ) → Piece
next_piece_of begun [] = piece_with begun []
next_piece_of begun (rest ∷ later) = piece_with begun rest

abbrev pub next_piece : Unsent → Piece
next_piece u = next_piece_of u.begun u.messages

-- ---- what was received: the pieces in the order of their numbers, None for each that is missing

-- how many come before the first that is missing
abbrev pub in_order : List (Option Piece) → ℕ
in_order pieces = prefix_len is_some pieces

-- A piece is held at its place, counted from 0; one that is there already stays
abbrev pub hold : ℕ → Piece → List (Option Piece) → List (Option Piece)
hold zero p [] = Some p ∷ []
hold zero p (None ∷ later) = Some p ∷ later
hold zero p (Some held ∷ later) = Some held ∷ later
hold (suc place) p [] = None ∷ hold place p []
hold (suc place) p (first ∷ later) = first ∷ hold place p later

-- a message, and how many pieces it came in
pub record Whole : Type 0 where
  pub pieces : ℕ
  pub message : List ℕ

abbrev pub with_piece : Piece → Option Whole → Option Whole
with_piece p None = None
with_piece p (Some w) = Some (record { pieces = w.pieces + 1; message = p.body ++ w.message })

-- The first message, if all its pieces are there: it ends with the first piece that ends one
abbrev pub next_message : List (Option Piece) → Option Whole
next_message [] = None
next_message (None ∷ later) = None
next_message (Some p ∷ later) = if p.ends then Some (record { pieces = 1; message = p.body }) else with_piece p (next_message later)

-- one piece more, where a whole message follows
abbrev pub one_more : ℕ → ℕ
one_more zero = 0
one_more (suc n) = n + 2

-- how many pieces the whole messages at the front have together
abbrev pub in_whole_messages : List (Option Piece) → ℕ
in_whole_messages [] = 0
in_whole_messages (None ∷ later) = 0
in_whole_messages (Some p ∷ later) = if p.ends then in_whole_messages later + 1 else one_more (in_whole_messages later)
