-- What is written of one side: its units, each once and in order, and between them what came to it and what its user did.
use Rattle.std.specs.Prelude.{◌≡◌, ℕ, ◌+◌, ◌≤◌, ◌<◌, List, [], ◌∷◌, ◌++◌, drop, length, slice_get}
use Rattle.std.specs.Prelude.{Option, Some, None, IfSome}
use Rattle.capture_record.specs.declared.record.Record.{Record}
use Rattle.capture_record.specs.declared.record.Record.TheVariants.{Sent, Received, Noise, User}
use Rattle.capture.specs.declared.hint.HintForm.TheVariants.{Number}
use Rattle.capture.specs.Text.{record_lines}

-- The units of the side that are not written yet, and for each of them how many of the other side had passed before it; those of the other side
-- that may still come, and how many can't any more.
pub record Units : Type 0 where
  pub own : List (List ℕ)
  pub seen : List ℕ
  pub other : List (List ℕ)
  pub gone : ℕ

-- these, and the lines that are put
pub record Waiting : Type 0 where
  pub units : Units
  pub text : List ℕ

abbrev pub nothing : Waiting
nothing = record { units = record { own = []; seen = []; other = []; gone = 0 }; text = [] }

-- how many units of the other side passed
abbrev pub other_count : Units → ℕ
other_count units = units.gone + length units.other

-- one more unit of the side passed, and one more of the other side
abbrev pub with_own : List ℕ → Waiting → Waiting
with_own unit w =
    record w { units = record w.units { own = w.units.own ++ unit ∷ []; seen = w.units.seen ++ other_count w.units ∷ [] } }

abbrev pub with_other : List ℕ → Waiting → Waiting
with_other unit w = record w { units = record w.units { other = w.units.other ++ unit ∷ [] } }

-- the next unit of the side is the one with these bytes, and waits no more
pub record NextIsSent (bytes : List ℕ) (old new : Units) : Type 0 where
  pub own : old.own ≡ bytes ∷ new.own
  pub seen : new.seen ≡ drop 1 old.seen
  pub other : new.other ≡ old.other
  pub gone : new.gone ≡ old.gone

-- the next unit of the other side is the one with these bytes, and can't come any more
pub record NextIsPast (bytes : List ℕ) (old new : Units) : Type 0 where
  pub own : new.own ≡ old.own
  pub seen : new.seen ≡ old.seen
  pub other : old.other ≡ bytes ∷ new.other
  pub gone : new.gone ≡ old.gone + 1

-- the unit of the other side with this number had passed before the next one of the side
abbrev pub IsInTime : ℕ → List ℕ → Type 0
IsInTime number seen = IfSome (slice_get seen 0) (λ count. number < count)

-- A record is of the next unit of the side; or of the next one of the other side, which its hint names, and which had passed before; or of no unit.
-- None: the next unit of the other side was lost, which no record tells.
abbrev pub Follows : Units → Option Record → Units → Type 0
Follows old None new = (bytes : List ℕ) × NextIsPast bytes old new
Follows old (Some (Sent bytes)) new = NextIsSent bytes old new
Follows old (Some (Received hint fate bytes)) new = (hint ≡ old.gone) × IsInTime hint old.seen × NextIsPast bytes old new
Follows old (Some (Noise bytes)) new = new ≡ old
Follows old (Some (User event)) new = new ≡ old

-- one after another
abbrev pub AllFollow : Units → List (Option Record) → Units → Type 0
AllFollow old [] new = new ≡ old
AllFollow old (act ∷ acts) new = (between : Units) × Follows old act between × AllFollow between acts new

-- the records among them
abbrev pub records_of : List (Option Record) → List Record
records_of [] = []
records_of (None ∷ acts) = records_of acts
records_of (Some r ∷ acts) = r ∷ records_of acts

-- Their lines are put after those that were there.
pub record Puts (old new : Waiting) : Type 0 where
  pub acts : List (Option Record)
  pub follow : AllFollow old.units acts new.units
  pub text : new.text ≡ old.text ++ record_lines Number (records_of acts)

-- the units in records of what was sent
abbrev pub units_sent : List Record → List (List ℕ)
units_sent [] = []
units_sent (Sent bytes ∷ rs) = bytes ∷ units_sent rs
units_sent (Received hint fate bytes ∷ rs) = units_sent rs
units_sent (Noise bytes ∷ rs) = units_sent rs
units_sent (User event ∷ rs) = units_sent rs

-- ---- which units came

-- Of all these units that passed on the other side, the first can't come any more, and the others still may.
pub record HavePassed (all : List (List ℕ)) (units : Units) : Type 0 where
  pub past : List (List ℕ)
  pub all_are : all ≡ past ++ units.other
  pub count : length past ≡ units.gone

-- the one with this number, counted from 0, has these bytes
pub record IsUnit (all : List (List ℕ)) (number : ℕ) (bytes : List ℕ) : Type 0 where
  pub before : List (List ℕ)
  pub after : List (List ℕ)
  pub are : all ≡ before ++ bytes ∷ after
  pub number_is : length before ≡ number

-- each receipt is of the unit that its hint numbers
abbrev pub NameUnits : List (List ℕ) → List Record → Type 0
NameUnits all [] = Unit {0}
NameUnits all (Sent bytes ∷ rs) = NameUnits all rs
NameUnits all (Received hint fate bytes ∷ rs) = IsUnit all hint bytes × NameUnits all rs
NameUnits all (Noise bytes ∷ rs) = NameUnits all rs
NameUnits all (User event ∷ rs) = NameUnits all rs

-- ---- when they came

-- The hints rise: the first is this number or more, each is more than the one before, and all are below the other number.
abbrev pub HintsRise : (front limit : ℕ) → List Record → Type 0
HintsRise front limit [] = front ≤ limit
HintsRise front limit (Sent bytes ∷ rs) = HintsRise front limit rs
HintsRise front limit (Received hint fate bytes ∷ rs) = (front ≤ hint) × HintsRise (hint + 1) limit rs
HintsRise front limit (Noise bytes ∷ rs) = HintsRise front limit rs
HintsRise front limit (User event ∷ rs) = HintsRise front limit rs

-- Of each receipt this holds: of the number of units of the side that are sent before it, here so many to begin with, and of its hint.
abbrev pub AllCome : (ℕ → ℕ → Type 0) → ℕ → List Record → Type 0
AllCome Comes sent [] = Unit {0}
AllCome Comes sent (Sent bytes ∷ rs) = AllCome Comes (sent + 1) rs
AllCome Comes sent (Received hint fate bytes ∷ rs) = Comes sent hint × AllCome Comes sent rs
AllCome Comes sent (Noise bytes ∷ rs) = AllCome Comes sent rs
AllCome Comes sent (User event ∷ rs) = AllCome Comes sent rs
