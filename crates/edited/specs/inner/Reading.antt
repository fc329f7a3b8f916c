-- What a read into an empty block did, and what a turn of a reader with changes did.
use Rattle.std.specs.Prelude.{◌≡◌, ℕ, ◌<◌, ◌≤◌, Bool, MatchBool, List, [], length, take, Option, Some, None, Result, Ok, Err}
use Rattle.std.specs.Io.KnownBytes.{Consumes, IsAtEnd, Keeps}

-- The bytes moved from the reader, and there are none only where the reader is at its end.
abbrev pub ReadsAhead : List ℕ → (before after : Option (List ℕ)) → Bool → Type 0
ReadsAhead bytes before after more = Consumes before after bytes × MatchBool more (0 < length bytes) ((bytes ≡ []) × IsAtEnd after)

-- so many bytes at the front of a buffer
abbrev pub IsFront : ℕ → List ℕ → Type 0
IsFront count buf = (count ≤ length buf) × (count ≡ length (take count buf))

-- A turn gave bytes as a read does, or none and nothing that is to come was lost.
abbrev pub Turns : {E : Type 0} → (before after : Option (List ℕ)) → Result (Option ℕ) E → List ℕ → Type 0
Turns before after (Ok (Some count)) buf = IsFront count buf × Consumes before after (take count buf) × (count ≡ 0 → 0 < length buf → IsAtEnd after)
Turns before after (Ok None) buf = Keeps before after
Turns before after (Err e) buf = Keeps before after
