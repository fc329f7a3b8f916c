-- Both sides of a line under way, and their captures on the way to the writers.
use Rattle.std.specs.Prelude.{◌≡◌, ℕ, ◌+◌, ◌<◌, ◌^◌, Bool, true, false, List, [], ◌++◌, length, Option, Result, Ok, Err, Some, None}
use Rattle.std.specs.Io.KnownBytes.{IsAtEnd}
use Rattle.wire_base.specs.Side.{other_side}
use Rattle.wire_base.specs.declared.side.Side.{Side}
use Rattle.wire_base.specs.declared.side.Side.TheVariants.{A, B}
use Rattle.capture.specs.declared.fault.CaptureFault.{CaptureFault}
use Rattle.capture.specs.declared.fault.CaptureFault.TheVariants as of_text
use Rattle.capture.specs.declared.format.Format.{Format}
use Rattle.capture.specs.declared.hint.HintForm.TheVariants.{Number}
use Rattle.capture_record.specs.declared.record.Record.{Record}
use Rattle.capture.specs.Faulty.{is_read_fault}
use Rattle.capture.specs.Paged.{HandsOver}
use Rattle.capture.specs.Reader.{FaultShows}
use Rattle.capture.specs.Text.{first_form, head_line, record_lines}
use Rattle.framer.specs.Framing.{Framing, framing, only_left}
use Rattle.framer.specs.SoFar.{IsFramedSoFar}
use Rattle.placing.specs.Placed.{AllCome, HavePassed, HintsRise, NameUnits, Units, Waiting, units_sent}
use Rattle.placing.specs.inner.Coming.{HoldsOn}
use Rattle.capture.specs.Listed.{IsListSoFar}
use Rattle.wire_text.specs.WireText.{Piece, PieceDeparts, Wire, wire_form}
use Rattle.wire_tap.specs.Tapping.{HadPassed, Held, Taps}
use Rattle.wire_tap.specs.Units.{bytes_of, messages, units_of}
use Rattle.wire_tap.specs.inner.Side.{MovesOn, PassesBytes, SideState, Tells, UnitsState, aim, counted, side_state, units_in}
use Rattle.wire_tap.specs.declared.fault.TapFault.{TapFault}
use Rattle.wire_tap.specs.declared.fault.TapFault.TheVariants as faults
use Rattle.wire_tap.specs.declared.side_tap.SideTap.{SideTap}
use Rattle.wire_tap.specs.declared.stop.Stop.{Stop}
use Rattle.wire_tap.specs.declared.stop.Stop.TheVariants as stops
use Rattle.wire_tap.specs.declared.tapped.Passed.{Passed}
use Rattle.wire_tap.specs.declared.tapped.Ending.{Ending}
use Rattle.wire_tap.specs.declared.tapped.Ending.TheVariants.{Whole, Unplaced, TooWide, Asked}

-- a fault of the text's reader; one that failed before is not read again
abbrev pub fault_of : CaptureFault → TapFault
fault_of (of_text.Departs kind line) = faults.Departs kind line
fault_of of_text.Read = faults.Read
fault_of of_text.OutOfMemory = faults.OutOfMemory
fault_of of_text.Failed = faults.Read

-- the lines of all its units were put
pub record PutsAll (old new : Waiting) : Type 0 where
  pub moves : MovesOn [] [] old new
  pub all : new.units.own ≡ []

-- ---- one side under way

-- The units of its receipts had passed in time, in these pieces, and so had whatever may come next.
pub record AreInTime (of : Side) (pieces : List Piece) (records : List Record) (units : Units) : Type 0 where
  pub come : AllCome (HadPassed of pieces) 0 records
  pub holds : HoldsOn (HadPassed of pieces) (length (units_sent records)) units
  pub rise : HintsRise 0 units.gone records

-- Of the bytes that it sent these units were found; the first of them are in these records, and the others wait. A part of the text after the
-- head was written, and the rest waits. These units of the other side passed, and the receipts in the records are of such.
pub record IsUnderWay (of : Side) (pieces : List Piece) (bytes head : List ℕ) (other : List (List ℕ)) (old now : Option (List ℕ))
    (side : SideState) : Type 0 where
  pub records : List Record
  pub found : Framing
  pub framed : IsFramedSoFar bytes found side.held
  pub left : framing side.held ≡ only_left side.held
  pub sent : units_sent records ++ side.units.waiting.units.own ≡ messages found.units
  pub count : side.units.count ≡ counted 0 (length (messages found.units))
  pub over : HandsOver (head ++ record_lines Number records) side.units.waiting.text old now
  pub named : NameUnits other records
  pub passed : HavePassed other side.units.waiting.units
  pub time : AreInTime of pieces records side.units.waiting.units

-- The side was told of the first of these units of the other one.
pub record FirstPassed (other : List (List ℕ)) (waiting : Waiting) : Type 0 where
  pub told : List (List ℕ)
  pub untold : List (List ℕ)
  pub are : other ≡ told ++ untold
  pub passed : HavePassed told waiting.units

-- The same where no more is read: these units have no record, and don't wait.
pub record IsOver (of : Side) (pieces : List Piece) (bytes head : List ℕ) (other : List (List ℕ)) (old now : Option (List ℕ))
    (units : UnitsState) : Type 0 where
  pub records : List Record
  pub others : List (List ℕ)
  pub sent : (units_sent records ++ units.waiting.units.own) ++ others ≡ messages (framing bytes).units
  pub count : units.count ≡ counted 0 (length (units_sent records ++ units.waiting.units.own))
  pub over : HandsOver (head ++ record_lines Number records) units.waiting.text old now
  pub named : NameUnits other records
  pub passed : FirstPassed other units.waiting
  pub time : AreInTime of pieces records units.waiting.units

-- ---- both sides

-- so many pieces were read, and this is to come; both sides, and what their writers hold
pub record LineState : Type 0 where
  pub pieces : ℕ
  pub come : Option (List ℕ)
  pub a : SideState
  pub b : SideState
  pub now : Held

abbrev pub line_state : ℕ → Option (List ℕ) → SideTap → SideTap → Held → LineState
line_state pieces come a b now = record { pieces = pieces; come = come; a = side_state a; b = side_state b; now = now }

abbrev pub head_a : Format → Wire → List ℕ
head_a format wire = head_line format wire.node_a wire.node_b

abbrev pub head_b : Format → Wire → List ℕ
head_b format wire = head_line format wire.node_b wire.node_a

-- lines are spelled in this format as in format 1
abbrev pub SpellsNumbers : Format → Type 0
SpellsNumbers format = (rs : List Record) → record_lines (first_form format) rs ≡ record_lines Number rs

pub record IsLineUnderWay (format : Format) (text : Option (List ℕ)) (old : Held) (line : LineState) : Type 0 where
  pub spells : SpellsNumbers format
  pub wire : Wire
  pub read : IsListSoFar wire_form text wire line.come
  pub count : length wire.items ≡ line.pieces
  pub a : IsUnderWay A wire.items (bytes_of A wire.items) (head_a format wire) (units_of B wire) old.a line.now.a line.a
  pub b : IsUnderWay B wire.items (bytes_of B wire.items) (head_b format wire) (units_of A wire) old.b line.now.b line.b

-- where no more is read, and this is to come
pub record IsLineOver (format : Format) (text : Option (List ℕ)) (old : Held) (line : LineState) : Type 0 where
  pub spells : SpellsNumbers format
  pub wire : Wire
  pub come : Option (List ℕ)
  pub read : IsListSoFar wire_form text wire come
  pub a : IsOver A wire.items (bytes_of A wire.items) (head_a format wire) (units_of B wire) old.a line.now.a line.a.units
  pub b : IsOver B wire.items (bytes_of B wire.items) (head_b format wire) (units_of A wire) old.b line.now.b line.b.units

-- the units of a side that have no record and don't wait
abbrev pub others_at : {format : Format} → {text : Option (List ℕ)} → {old : Held} → {line : LineState} → Side → IsLineOver format text old line →
    List (List ℕ)
others_at A over = over.a.others
others_at B over = over.b.others

-- how many units of a side have a record, or wait
abbrev pub units_at : {format : Format} → {text : Option (List ℕ)} → {old : Held} → {line : LineState} → Side → IsLineOver format text old line → ℕ
units_at {line = line} A over = length (units_sent over.a.records ++ line.a.units.waiting.units.own)
units_at {line = line} B over = length (units_sent over.b.records ++ line.b.units.waiting.units.own)

module _ {format : Format} {text : Option (List ℕ)} {old : Held} {line : LineState} (over : IsLineOver format text old line) where
  -- all that was read passed
  pub record IsAllOver : Type 0 where
    pub a : over.a.others ≡ []
    pub b : over.b.others ≡ []

  -- the captures end with this unit
  pub record EndsOver (passed : Passed) : Type 0 where
    pub other : others_at (other_side passed.side) over ≡ []
    pub number : units_at passed.side over < 2 ^ 64 → passed.unit + 1 ≡ units_at passed.side over

  abbrev pub StopsAs : Option (Side × ℕ) → Stop → Type 0
  StopsAs last (stops.Ends Whole) = IsAllOver × IsAtEnd over.come
  StopsAs last (stops.Ends (Unplaced passed)) = EndsOver passed
  StopsAs last (stops.Ends (TooWide passed)) = EndsOver passed
  StopsAs last (stops.Ends (Asked passed)) = EndsOver passed × (last ≡ Some (passed.side, passed.unit))
  StopsAs last (stops.Text fault) =
      IsAllOver × FaultShows (PieceDeparts (length over.wire.items)) (length over.wire.items + 2) over.come fault
      × (fault ≡ of_text.OutOfMemory → ⊥)

-- ---- one turn

abbrev pub Stopped : Option (Side × ℕ) → Format → Option (List ℕ) → Held → LineState → Stop → Type 0
Stopped last format text old line stop = (over : IsLineOver format text old line) × StopsAs over last stop

-- the same wherever the reader is by now
abbrev pub StoppedBefore : Option (Side × ℕ) → Format → Option (List ℕ) → Held → LineState → Stop → Type 0
StoppedBefore last format text old line stop =
    (pieces : ℕ) × (come : Option (List ℕ)) × Stopped last format text old (record line { pieces = pieces; come = come }) stop

abbrev pub Turns : Option (Side × ℕ) → Format → Option (List ℕ) → Held → LineState → Result (Option Stop) TapFault → Type 0
Turns last format text old line (Ok None) = IsLineUnderWay format text old line
Turns last format text old line (Ok (Some stop)) = StoppedBefore last format text old line stop
Turns last format text old line (Err fault) = Taps last format text old line.now (Err fault)

abbrev pub Stops : Option (Side × ℕ) → Format → Option (List ℕ) → Held → LineState → Result Stop TapFault → Type 0
Stops last format text old line (Ok stop) = StoppedBefore last format text old line stop
Stops last format text old line (Err fault) = Taps last format text old line.now (Err fault)

-- these units passed on the other side
pub record StandsBeside (units : List (List ℕ)) (ending : Option Ending) (old new : SideState) : Type 0 where
  pub moves : Tells units ending old.units.waiting new.units.waiting
  pub held : new.held ≡ old.held
  pub count : new.units.count ≡ old.units.count

-- the piece of a side passed
abbrev pub PassesPiece : Option (Side × ℕ) → Side → List ℕ → (old new : SideState × SideState) → Option Ending → Type 0
PassesPiece last A bytes old new ending =
    PassesBytes (aim last A) (old.0.held ++ bytes) old.0 new.0 ending × StandsBeside (units_in (old.0.held ++ bytes)) ending old.1 new.1
PassesPiece last B bytes old new ending =
    StandsBeside (units_in (old.1.held ++ bytes)) ending old.0 new.0 × PassesBytes (aim last B) (old.1.held ++ bytes) old.1 new.1 ending

-- ---- counts of failed calls

-- the text's reader: a read failed where that is why no more is read
abbrev pub is_failed_stop : Stop → Bool
is_failed_stop (stops.Ends ending) = false
is_failed_stop (stops.Text fault) = is_read_fault fault

abbrev pub is_failed_fault : TapFault → Bool
is_failed_fault (faults.Departs kind line) = false
is_failed_fault faults.Read = true
is_failed_fault (faults.Write side) = false
is_failed_fault faults.OutOfMemory = false

abbrev pub is_failed_turn : Result (Option Stop) TapFault → Bool
is_failed_turn (Ok None) = false
is_failed_turn (Ok (Some stop)) = is_failed_stop stop
is_failed_turn (Err fault) = is_failed_fault fault

abbrev pub is_failed_reading : Result Stop TapFault → Bool
is_failed_reading (Ok stop) = is_failed_stop stop
is_failed_reading (Err fault) = is_failed_fault fault
