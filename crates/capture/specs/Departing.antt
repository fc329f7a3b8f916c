-- How the first line of some bytes departs from the format, and with which kind of departure.
use Rattle.std.specs.Prelude.{◌≡◌, ◌≢◌, ℕ, ◌<◌, ◌≤◌, ◌==◌, ◌⊎◌, Bool, true, false, if◌then◌else◌, List, [], ◌∷◌, length}
use Rattle.capture.specs.declared.limit.TheConstants.{MAX_LINE, MAX_RECORDS}
use Rattle.capture.specs.declared.fault.Departure.{Departure}
use Rattle.capture.specs.declared.fault.Departure.TheVariants.{Syntax, TooLong, TooMany, Part}
use Rattle.capture_record.specs.declared.record.Record.{Record}
use Rattle.capture.specs.declared.hint.HintForm.{HintForm}
use Rattle.capture.specs.declared.format.Format.{Format}
use Rattle.capture.specs.Text.{record_text, head_text, part_head_text}
use Rattle.capture_record.specs.Range.{IsShort, HasSpelling}
use Rattle.capture.specs.Range.{IsNode, IsInForm}

-- the first line: what comes before the first LF, or before the end
abbrev pub first_line : List ℕ → List ℕ
first_line [] = []
first_line (b ∷ bs) = if b == 10 then [] else b ∷ first_line bs

-- whether the first line has its LF
abbrev pub has_lf : List ℕ → Bool
has_lf [] = false
has_lf (b ∷ bs) = if b == 10 then true else has_lf bs

-- the first line is whole, and no longer than a line may be
pub record IsWhole (bytes : List ℕ) : Type 0 where
  pub short : length (first_line bytes) ≤ MAX_LINE
  pub ended : has_lf bytes ≡ true

-- The first line departs before a word of it is read, in a text that may have `most` lines and had `taken`
-- before: it is one too many, whatever it holds; or else longer than a line may be; or else without its LF.
abbrev pub LineDeparts : ℕ → ℕ → Departure → List ℕ → Type 0
LineDeparts most taken TooMany bytes = (most ≤ taken) × (bytes ≢ [])
LineDeparts most taken TooLong bytes = (taken < most) × (MAX_LINE < length (first_line bytes))
LineDeparts most taken Syntax bytes = (taken < most) × (bytes ≢ []) × (length (first_line bytes) ≤ MAX_LINE) × (has_lf bytes ≡ false)
LineDeparts most taken Part bytes = ⊥

-- The words of a line depart: they are no record's that the format of such hints has, of any length of BYTES; or they are such a record's,
-- except that BYTES is too long.
abbrev pub WordsDepart : HintForm → Departure → List ℕ → Type 0
WordsDepart form TooMany line = ⊥
WordsDepart form TooLong line = (r : Record) × HasSpelling r × ¬ (IsShort r) × (line ≡ record_text form r) × IsInForm form r
WordsDepart form Syntax line = (r : Record) → HasSpelling r → line ≡ record_text form r → IsInForm form r → ⊥
WordsDepart form Part line = ⊥

-- The first line of what is to come departs, after this many records, where a hint has this form.
abbrev pub RecordDeparts : HintForm → ℕ → Departure → List ℕ → Type 0
RecordDeparts form records kind bytes =
    LineDeparts MAX_RECORDS records kind bytes
    ⊎ ((records < MAX_RECORDS) × IsWhole bytes × WordsDepart form kind (first_line bytes))

-- the words of the head of a part of a run
pub record IsPartHead (line : List ℕ) : Type 0 where
  pub own : ℕ
  pub peer : ℕ
  pub own_fits : IsNode own
  pub peer_fits : IsNode peer
  pub spelled : line ≡ part_head_text own peer

-- The words of a head depart: they are no head's, in any format, and not that of a part of a run either; or they are the latter.
abbrev pub HeadWordsDepart : Departure → List ℕ → Type 0
HeadWordsDepart TooMany line = ⊥
HeadWordsDepart TooLong line = ⊥
HeadWordsDepart Syntax line =
    ((format : Format) (own peer : ℕ) → IsNode own → IsNode peer → line ≡ head_text format own peer → ⊥) × ¬ (IsPartHead line)
HeadWordsDepart Part line = IsPartHead line

-- The first line of a text departs from a head: it is too long; or without its LF, as in a text with no line; or no head's; or that of a part of
-- a run.
abbrev pub HeadDeparts : Departure → List ℕ → Type 0
HeadDeparts TooMany bytes = ⊥
HeadDeparts TooLong bytes = MAX_LINE < length (first_line bytes)
HeadDeparts Syntax bytes =
    ((length (first_line bytes) ≤ MAX_LINE) × (has_lf bytes ≡ false))
    ⊎ (IsWhole bytes × HeadWordsDepart Syntax (first_line bytes))
HeadDeparts Part bytes = IsWhole bytes × HeadWordsDepart Part (first_line bytes)
