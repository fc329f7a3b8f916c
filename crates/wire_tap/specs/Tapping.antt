-- What a tap reads and writes.
use Rattle.std.specs.Prelude.{◌≡◌, ℕ, ◌+◌, ◌≤◌, ◌<◌, ◌^◌, ◌⊎◌, Bool, true, false, if◌then◌else◌, List, ◌++◌, length}
use Rattle.std.specs.Prelude.{Option, Some, Result, Ok, Err, IfSome}
use Rattle.std.specs.List.{list_all}
use Rattle.std.specs.Io.KnownBytes.{Appends, IsAtEnd, Keeps}
use Rattle.wire_base.specs.Side.{other_side}
use Rattle.wire_base.specs.Tally.{AppendsBeginning, CountedFault}
use Rattle.wire_base.specs.declared.side.Side.{Side}
use Rattle.wire_base.specs.declared.side.Side.TheVariants.{A, B}
use Rattle.capture.specs.Passing.{AppendsSome}
use Rattle.capture.specs.declared.fault.Departure.{Departure}
use Rattle.capture.specs.declared.format.Format.{Format}
use Rattle.capture.specs.declared.format.Format.TheVariants.{One, Three}
use Rattle.capture_record.specs.declared.record.Record.{Record}
use Rattle.capture.specs.Text.{capture_text}
use Rattle.capture.specs.Listed.{IsListSoFar}
use Rattle.wire_text.specs.WireText.{Piece, PieceDeparts, Wire, WireHeadDeparts, wire_form}
use Rattle.placing.specs.Placed.{AllCome, HintsRise, NameUnits, units_sent}
use Rattle.placing.specs.declared.turn.Assumed.{Assumed}
use Rattle.placing.specs.declared.turn.Assumed.TheVariants as assumes
use Rattle.placing.specs.declared.turn.Turn.{Turn}
use Rattle.wire_tap.specs.Units.{units_of, units_within}
use Rattle.wire_tap.specs.declared.fault.TapFault.{TapFault}
use Rattle.wire_tap.specs.declared.fault.TapFault.TheVariants as faults
use Rattle.wire_tap.specs.declared.tapped.Ending.{Ending}
use Rattle.wire_tap.specs.declared.tapped.Ending.TheVariants.{Whole, Unplaced, TooWide, Asked}
use Rattle.wire_tap.specs.declared.tapped.Passed.{Passed}
use Rattle.wire_tap.specs.declared.tapped.Tapped.{Tapped}

-- what the writers of both captures hold, where they tell it
pub record Held : Type 0 where
  pub a : Option (List ℕ)
  pub b : Option (List ℕ)

abbrev pub held : Option (List ℕ) → Option (List ℕ) → Held
held a b = record { a = a; b = b }

-- What was read of a text, what is to come, and the records of both captures
pub record Reached : Type 0 where
  pub wire : Wire
  pub come : Option (List ℕ)
  pub a : List Record
  pub b : List Record

abbrev pub records_at : Side → Reached → List Record
records_at A r = r.a
records_at B r = r.b

-- ---- which units a capture has

-- the units that a side's capture says were sent
abbrev pub sent_at : Side → Reached → List (List ℕ)
sent_at side r = units_sent (records_at side r)

-- exactly those that passed, in their order
abbrev pub HasAll : Side → Reached → Type 0
HasAll side r = sent_at side r ≡ units_of side r.wire

-- the first of them, and these are the others
abbrev pub HasFirst : Side → Reached → List (List ℕ) → Type 0
HasFirst side r others = sent_at side r ++ others ≡ units_of side r.wire

-- both captures have all units of what was read
pub record HaveAll (r : Reached) : Type 0 where
  pub a : HasAll A r
  pub b : HasAll B r

-- both have the first of them
pub record HaveFirst (r : Reached) : Type 0 where
  pub others_a : List (List ℕ)
  pub others_b : List (List ℕ)
  pub a : HasFirst A r others_a
  pub b : HasFirst B r others_b

-- One side's capture has its units up to this one, which is its last; the other's has all that passed before.
pub record EndWith (passed : Passed) (r : Reached) : Type 0 where
  pub others : List (List ℕ)
  pub own : HasFirst passed.side r others
  pub other : HasAll (other_side passed.side) r
  pub number : length (sent_at passed.side r) < 2 ^ 64 → passed.unit + 1 ≡ length (sent_at passed.side r)

-- ---- which units its receipts are of

-- Each receipt of a capture is of a unit of the other side that passed: the one which its hint numbers, with these bytes.
pub record HaveNamed (r : Reached) : Type 0 where
  pub a : NameUnits (units_of B r.wire) r.a
  pub b : NameUnits (units_of A r.wire) r.b

-- ---- when these units had passed

-- In some beginning of the pieces the other side's unit with this number is whole, and no more than so many units of the side are.
pub record HadPassed (side : Side) (pieces : List Piece) (sent number : ℕ) : Type 0 where
  pub first : List Piece
  pub rest : List Piece
  pub are : pieces ≡ first ++ rest
  pub whole : number < length (units_within (other_side side) first)
  pub few : length (units_within side first) ≤ sent

-- The unit of each receipt had passed before the unit that the capture says was sent next passed; and hints rise.
pub record HaveInTime (r : Reached) : Type 0 where
  pub a : AllCome (HadPassed A r.wire.items) 0 r.a
  pub b : AllCome (HadPassed B r.wire.items) 0 r.b
  pub rise_a : HintsRise 0 (length (units_of B r.wire)) r.a
  pub rise_b : HintsRise 0 (length (units_of A r.wire)) r.b

-- this was read of a text, and the receipts are of units in it, each of one that had passed
abbrev pub IsReached : Option (List ℕ) → Reached → Type 0
IsReached text r = IsListSoFar wire_form text r.wire r.come × HaveNamed r × HaveInTime r

-- ---- how many there are

-- how many units each capture has, as far as 64 bits count them
pub record HasCounted (tapped : Tapped) (r : Reached) : Type 0 where
  pub a : length (sent_at A r) < 2 ^ 64 → tapped.units_a.count ≡ length (sent_at A r)
  pub b : length (sent_at B r) < 2 ^ 64 → tapped.units_b.count ≡ length (sent_at B r)

-- ---- what is written

-- what is assumed needs no line that format 1 has not
abbrev pub is_in_one : Assumed → Bool
is_in_one (assumes.Keeps most) = true
is_in_one assumes.Boots = false
is_in_one assumes.GivesUp = false
is_in_one (assumes.Anew is_anew) = true
is_in_one (assumes.Answers came partner link accepts) = true

abbrev pub turn_is_in_one : Turn → Bool
turn_is_in_one turn = is_in_one turn.what

-- the format of both captures: 1; or 3, where a node boots or gives a call up
abbrev pub format_of : List Turn → Format
format_of turns = if list_all turn_is_in_one turns then One else Three

-- the texts of both captures
abbrev pub text_a : Format → Reached → List ℕ
text_a format r = capture_text format r.wire.node_a r.wire.node_b r.a

abbrev pub text_b : Format → Reached → List ℕ
text_b format r = capture_text format r.wire.node_b r.wire.node_a r.b

-- neither writer took anything
pub record TakesNothing (old new : Held) : Type 0 where
  pub a : Keeps old.a new.a
  pub b : Keeps old.b new.b

-- each writer took the text of its capture
pub record HasWritten (format : Format) (old new : Held) (r : Reached) : Type 0 where
  pub a : Appends old.a new.a (text_a format r)
  pub b : Appends old.b new.b (text_b format r)

-- each took a beginning of it
pub record HasBegun (format : Format) (old new : Held) (r : Reached) : Type 0 where
  pub a : AppendsSome old.a new.a (text_a format r)
  pub b : AppendsSome old.b new.b (text_b format r)

-- the writer of one side took a beginning of its text that is not all of it, and the other a beginning
abbrev pub HasCut : Side → Format → Held → Held → Reached → Type 0
HasCut A format old new r = AppendsBeginning old.a new.a (text_a format r) × AppendsSome old.b new.b (text_b format r)
HasCut B format old new r = AppendsSome old.a new.a (text_a format r) × AppendsBeginning old.b new.b (text_b format r)

-- ---- how it ends

-- all passed, or the captures end with a unit; `last` is the one that was asked for
abbrev pub EndsAs : Option (Side × ℕ) → Ending → Reached → Type 0
EndsAs last Whole r = HaveAll r × IsAtEnd r.come
EndsAs last (Unplaced passed) r = EndWith passed r
EndsAs last (TooWide passed) r = EndWith passed r
EndsAs last (Asked passed) r = EndWith passed r × (last ≡ Some (passed.side, passed.unit))

-- the head's line departs in this way
pub record HeadDepartsAt (text : Option (List ℕ)) (kind : Departure) (line : ℕ) : Type 0 where
  pub departs : IfSome text (WireHeadDeparts kind)
  pub line_is : line ≡ 1

-- the next line departs in this way
pub record DepartsBehind (kind : Departure) (line : ℕ) (r : Reached) : Type 0 where
  pub departs : IfSome r.come (PieceDeparts (length r.wire.items) kind)
  pub line_is : line ≡ length r.wire.items + 2

-- some of the text was read, both captures were written, and this holds of them
abbrev pub TapsTo : Format → Option (List ℕ) → Held → Held → (Reached → Type 0) → Type 0
TapsTo format text old new Behind = (r : Reached) × IsReached text r × HasWritten format old new r × Behind r

-- One call, where this text was to come, by its answer. At each fault what was written is a beginning of both captures: of all that passed before a
-- line that departs or that can't be read; or as far as there was memory, or as the writers took it.
abbrev pub Taps : Option (Side × ℕ) → Format → Option (List ℕ) → Held → Held → Result Tapped TapFault → Type 0
Taps last format text old new (Ok tapped) = TapsTo format text old new (λ r. EndsAs last tapped.ending r × HasCounted tapped r)
Taps last format text old new (Err (faults.Departs kind line)) = (HeadDepartsAt text kind line × TakesNothing old new)
    ⊎ TapsTo format text old new (λ r. HaveAll r × DepartsBehind kind line r)
Taps last format text old new (Err faults.Read) = TakesNothing old new ⊎ TapsTo format text old new HaveAll
Taps last format text old new (Err (faults.Write side)) = (r : Reached) × IsReached text r × HaveFirst r × HasCut side format old new r
Taps last format text old new (Err faults.OutOfMemory) = TakesNothing old new
    ⊎ ((r : Reached) × IsReached text r × HaveFirst r × HasBegun format old new r)

-- ---- counts of failed calls

-- the text's reader: where a write failed, or memory was refused, a read may have failed just before
abbrev pub CountsReadsOf : Result Tapped TapFault → ℕ → ℕ → Type 0
CountsReadsOf (Ok tapped) old new = new ≡ old
CountsReadsOf (Err (faults.Departs kind line)) old new = new ≡ old
CountsReadsOf (Err faults.Read) old new = CountedFault old new
CountsReadsOf (Err (faults.Write side)) old new = (new ≡ old) ⊎ CountedFault old new
CountsReadsOf (Err faults.OutOfMemory) old new = (new ≡ old) ⊎ CountedFault old new

-- the writer of a side
abbrev pub CountsOfSide : Side → Side → ℕ → ℕ → Type 0
CountsOfSide A A old new = CountedFault old new
CountsOfSide A B old new = new ≡ old
CountsOfSide B A old new = new ≡ old
CountsOfSide B B old new = CountedFault old new

abbrev pub CountsWritesOf : {A : Type 0} → Side → Result A TapFault → ℕ → ℕ → Type 0
CountsWritesOf side (Ok x) old new = new ≡ old
CountsWritesOf side (Err (faults.Departs kind line)) old new = new ≡ old
CountsWritesOf side (Err faults.Read) old new = new ≡ old
CountsWritesOf side (Err (faults.Write failed)) old new = CountsOfSide side failed old new
CountsWritesOf side (Err faults.OutOfMemory) old new = new ≡ old
