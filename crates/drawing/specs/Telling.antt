-- What a ladder is told of the records of a pair that is drawn.
use Rattle.std.specs.Prelude.{◌≡◌, ◌⊎◌, ◌≤◌, ℕ, false, List, [], ◌++◌, Option, Some, None, fold, length, map}
use Rattle.ladder.specs.Ladder.{LadderView, follows, learned, made}
use Rattle.ladder.specs.Rows.{no_rows}
use Rattle.ladder.specs.declared.rows.Keep.{Keep}
use Rattle.ladder.specs.declared.rows.Keep.TheVariants.{Last, First, From}
use Rattle.pair_judge.specs.Order.{MadeEntry, MadeRecord, record_told}
use Rattle.pair_judge.specs.declared.verdict.Verdict.{Verdict}
use Rattle.pair_judge.specs.declared.verdict.Verdict.TheVariants.{Accepted, Refused}
use Rattle.drawing.specs.declared.range.Range.{Range}
use Rattle.drawing.specs.declared.range.Start.{Start}
use Rattle.drawing.specs.declared.log.TheConstants.{RECORDS}
use Rattle.drawing.specs.declared.told_record.Later.{Later}

-- ---- which rows are drawn

-- from a named record on, or else these
abbrev pub keep_by : Keep → Option Start → Keep
keep_by otherwise (Some start) = From start.side start.line
keep_by otherwise None = otherwise

-- of an accepted pair the one, of a refused pair the other
abbrev pub keep_for : (accepted refused : Keep) → Verdict → Keep
keep_for accepted refused (Accepted summary) = accepted
keep_for accepted refused (Refused side place reason) = refused

abbrev pub keep_of : Range → Verdict → Keep
keep_of range verdict = keep_for (keep_by First range.start) (keep_by Last range.start) verdict

-- ---- what is told

-- records that are not drawn, nor their units
abbrev pub knows : LadderView → MadeEntry → LadderView
knows ladder next = learned ladder next.side next.entry next.bytes

abbrev pub ladder_knowing : LadderView → List MadeEntry → LadderView
ladder_knowing ladder records = fold knows ladder records

-- records that may have one
abbrev pub takes : LadderView → MadeEntry → LadderView
takes ladder next = made ladder next.side next.entry next.bytes

abbrev pub ladder_told : LadderView → List MadeEntry → LadderView
ladder_told ladder records = fold takes ladder records

-- records after those, which tell what becomes of units
abbrev pub passes : LadderView → Later → LadderView
passes ladder next = follows ladder next.side next.entry

abbrev pub ladder_behind : LadderView → List Later → LadderView
ladder_behind ladder records = fold passes ladder records

abbrev pub later_entry : MadeEntry → Later
later_entry next = record { side = next.side; entry = next.entry }

-- from here on rows are kept
abbrev pub with_no_rows : Keep → ℕ → LadderView → LadderView
with_no_rows keep rows ladder = record ladder { kept = no_rows keep rows }

-- which records are not told as made: of the first rows none, of the last ones those before the last 800
abbrev pub KeepsEnough : Keep → (gone calls : List MadeEntry) → Type 0
KeepsEnough First gone calls = gone ≡ []
KeepsEnough Last gone calls = (gone ≡ []) ⊎ (RECORDS ≤ length calls)
KeepsEnough (From side line) gone calls = Unit {0}

-- which are told as made and have no row: those right before a named record
abbrev pub NoneNear : Keep → List MadeEntry → Type 0
NoneNear First near = near ≡ []
NoneNear Last near = near ≡ []
NoneNear (From side line) near = Unit {0}

-- A ladder knew nothing, and was told of this order: of the first records what is known of them, then of some that have no row, then of records that
-- may have one, then of some what becomes of units. Of the rest it was not told.
pub record WereTold (keep : Keep) (rows : ℕ) (ladder : LadderView) (rest order : List MadeRecord) : Type 0 where
  pub start : LadderView
  pub ended : start.ended ≡ false
  pub line_a : start.a.line ≡ 2
  pub line_b : start.b.line ≡ 2
  pub gone : List MadeEntry
  pub near : List MadeEntry
  pub calls : List MadeEntry
  pub later : List MadeEntry
  pub of_order : map record_told (gone ++ (near ++ (calls ++ later))) ++ rest ≡ order
  pub enough : KeepsEnough keep gone calls
  pub none_near : NoneNear keep near
  pub reached :
      ladder ≡ ladder_behind (ladder_told (with_no_rows keep rows (ladder_told (ladder_knowing start gone) near)) calls) (map later_entry later)

-- ---- those after a refused record

abbrev pub WereFollowed : LadderView → LadderView → Type 0
WereFollowed before after = (behind : List Later) × (after ≡ ladder_behind before behind)
