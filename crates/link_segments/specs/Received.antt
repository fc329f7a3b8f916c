-- What a contract sees of the segments that are received and not delivered: which piece is missing, and which message is next.
use Rattle.std.specs.Prelude.{ℕ, ◌+◌, ◌-◌, ◌^◌, min, Bool, true, false, Option}
use Rattle.std.specs.Prelude.{Some, None, List, slice_get, is_some, not, if◌then◌else◌, take, drop, length}
use Rattle.std.specs.Option.{option_flatten}
use Rattle.std.specs.Str.{bytes_eq}
use Rattle.dna_links.specs.Segmentation.{Piece, Whole, next_message}

abbrev pub pieces_if : Bool → ℕ → Option ℕ
pieces_if true pieces = Some pieces
pieces_if false pieces = None

abbrev pub pieces_of : List ℕ → Option Whole → Option ℕ
pieces_of message None = None
pieces_of message (Some w) = pieces_if (bytes_eq message w.message) w.pieces

-- how many pieces the next whole message came in, if it is this one
abbrev pub delivered_pieces : List ℕ → List (Option Piece) → Option ℕ
delivered_pieces message pieces = pieces_of message (next_message pieces)

-- the piece at a place, if one is there
abbrev pub piece_at : ℕ → List (Option Piece) → Option Piece
piece_at place pieces = option_flatten (slice_get pieces place)

abbrev pub is_missing_at : ℕ → List (Option Piece) → Bool
is_missing_at place pieces = not (is_some (piece_at place pieces))

-- what follows these bytes at the front, if they are there
abbrev pub without_front : List ℕ → List ℕ → Option (List ℕ)
without_front front bytes = if bytes_eq front (take (length front) bytes) then Some (drop (length front) bytes) else None

-- how many pieces the next message came in, if all of them are there
abbrev pub count_of : Option Whole → Option ℕ
count_of None = None
count_of (Some w) = Some w.pieces

abbrev pub next_count : List (Option Piece) → Option ℕ
next_count pieces = count_of (next_message pieces)

abbrev pub more_pieces : ℕ → Option ℕ → Option ℕ
more_pieces count None = None
more_pieces count (Some pieces) = Some (count + pieces)

-- how long the next message is, if all its pieces are there; no machine counts beyond 64 bits
abbrev pub length_of : Option Whole → Option ℕ
length_of None = None
length_of (Some w) = Some (min (length w.message) (2 ^ 64 - 1))

abbrev pub next_length : List (Option Piece) → Option ℕ
next_length pieces = length_of (next_message pieces)

abbrev pub more_bytes : ℕ → Option ℕ → Option ℕ
more_bytes bytes None = None
more_bytes bytes (Some more) = Some (min (bytes + more) (2 ^ 64 - 1))
