-- What a contract sees of a reader of lines, and what one call of it finds.
use Rattle.std.specs.Prelude.{◌≡◌, ◌≢◌, ℕ, ◌<◌, ◌≤◌, Bool, false, MatchBool, slice_index, List, [], ◌++◌, length, Option, Some, None, Result, Ok, Err}
use Rattle.std.specs.Prelude.{IfSome}
use Rattle.std.specs.Io.KnownBytes.{prepend_known, Consumes, Keeps, IsAtEnd}
use Rattle.capture.specs.declared.fault.LineFault.{LineFault}
use Rattle.capture.specs.declared.fault.LineFault.TheVariants.{Departs, Read}
use Rattle.capture.specs.Departing.{first_line, has_lf, IsWhole, LineDeparts}

-- how many lines were taken, the bytes that were read ahead, and the line that was taken last
pub record LineState : Type 0 where
  pub taken : ℕ
  pub unread : List ℕ
  pub last : List ℕ

-- what is to come: what was read ahead, and then what the reader has left
abbrev pub to_come : List ℕ → Option (List ℕ) → Option (List ℕ)
to_come unread left = prepend_known unread left

-- The bytes that were read ahead are no whole line, and nothing that was to come is lost.
abbrev pub IsCut : List ℕ → (before after : Option (List ℕ)) → Type 0
IsCut unread before after = (has_lf unread ≡ false) × Keeps before after

-- What a search for the next line found, in a text that may have `most` lines. `before` was to come before it and
-- `after` is to come now, where the reader tells its bytes. A line is found where it was read ahead whole; where the reader
-- failed none was, and nothing of what it gave is lost.
abbrev pub FindsLine : ℕ → LineState → Option (List ℕ) → Option (List ℕ) → Result (Option ℕ) LineFault → Type 0
FindsLine most state before after (Ok (Some len)) =
    (state.taken < most) × IsWhole state.unread × (len ≡ length (first_line state.unread)) × Keeps before after
FindsLine most state before after (Ok None) = IsAtEnd before
FindsLine most state before after (Err (Departs kind)) = IfSome before (LineDeparts most state.taken kind)
FindsLine most state before after (Err Read) = IsCut state.unread before after

-- What was to come begins with a piece of a line, which has no LF, and then comes what the reader has left.
abbrev pub IsCutBehind : Option (List ℕ) → Option (List ℕ) → Type 0
IsCutBehind come left = (piece : List ℕ) × (has_lf piece ≡ false) × Consumes come left piece

-- A read moved bytes from the reader to the end of those read ahead, and none only where the reader is at its end.
abbrev pub ReadsAhead : List ℕ → List ℕ → Option (List ℕ) → Option (List ℕ) → Bool → Type 0
ReadsAhead old new before after more = (piece : List ℕ) × (new ≡ old ++ piece) × Consumes before after piece × MatchBool more (0 < length piece)
    ((piece ≡ []) × IsAtEnd after)

-- the first LF from `searched` on
abbrev pub FindsLf : ℕ → List ℕ → Option ℕ → Type 0
FindsLf searched unread None = (j : ℕ) → searched ≤ j → j < length unread → slice_index unread j ≢ 10
FindsLf searched unread (Some at) = (searched ≤ at) × (at < length unread) × (slice_index unread at ≡ 10) ×
    ((j : ℕ) → searched ≤ j → j < at → slice_index unread j ≢ 10)
