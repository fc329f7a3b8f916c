-- What is kept of the records that were told, for the contracts of private functions.
use Rattle.std.specs.Prelude.{◌≡◌, ◌⊎◌, ◌≤◌, ◌<◌, Bool, true, false, List, [], ◌∷◌, ◌++◌, length, map}
use Rattle.ladder.specs.Ladder.{LadderView}
use Rattle.pair_judge.specs.Order.{MadeEntry, MadeRecord, record_told}
use Rattle.drawing.specs.declared.first.First.{First}
use Rattle.drawing.specs.declared.first.TheConstants.{LATER}
use Rattle.drawing.specs.declared.recent.Recent.{Recent}
use Rattle.drawing.specs.declared.log.TheConstants.{RECORDS}
use Rattle.drawing.specs.declared.telling.BothEnds.{BothEnds}
use Rattle.drawing.specs.declared.telling.Onward.{Onward}
use Rattle.drawing.specs.Telling.{ladder_knowing, ladder_told, later_entry}

pub record IsNew (ladder : LadderView) : Type 0 where
  pub ended : ladder.ended ≡ false
  pub line_a : ladder.a.line ≡ 2
  pub line_b : ladder.b.line ≡ 2

-- the last records, and a ladder that knows those before them
pub record IsRecent (recent : Recent) (order : List MadeRecord) : Type 0 where
  pub start : LadderView
  pub is_new : IsNew start
  pub gone : List MadeEntry
  pub of_order : map record_told (gone ++ (recent.older ++ recent.newer)) ≡ order
  pub before : recent.before ≡ ladder_knowing start gone
  pub enough : (gone ≡ []) ⊎ (RECORDS ≤ length recent.older)

-- a ladder that was told of all of them
pub record WasToldOf (ladder : LadderView) (order : List MadeRecord) : Type 0 where
  pub start : LadderView
  pub is_new : IsNew start
  pub gone : List MadeEntry
  pub near : List MadeEntry
  pub of_order : map record_told (gone ++ near) ≡ order
  pub reached : ladder ≡ ladder_told (ladder_knowing start gone) near

-- whether these are none
abbrev pub Rest : Bool → List MadeRecord → Type 0
Rest true rest = rest ≡ []
Rest false rest = (next : MadeRecord) × (more : List MadeRecord) × (rest ≡ next ∷ more)

-- the first records, those after them, and the rest
pub record IsFirst (first : First) (order : List MadeRecord) : Type 0 where
  pub later : List MadeEntry
  pub rest : List MadeRecord
  pub of_order : map record_told (first.records.items ++ later) ++ rest ≡ order
  pub is_later : first.later.items ≡ map later_entry later
  pub no_later : length first.records.items < RECORDS → later ≡ []
  pub no_rest : length first.later.items < LATER → first.is_all ≡ true
  pub whole : Rest first.is_all rest

abbrev pub IsEnds : BothEnds → List MadeRecord → Type 0
IsEnds ends order = IsFirst ends.first order × IsRecent ends.recent order

-- those from one on, and the last ones before it
pub record IsOnward (onward : Onward) (order : List MadeRecord) : Type 0 where
  pub ahead : List MadeRecord
  pub tail : List MadeRecord
  pub of_order : ahead ++ tail ≡ order
  pub before : IsRecent onward.before ahead
  pub first : IsFirst onward.first tail
