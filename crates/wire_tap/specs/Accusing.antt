-- What is said of both sides: of which units that passed an accuser says that no correct node sends them.
use Rattle.std.specs.Prelude.{◌≡◌, ℕ, ◌<◌, ◌^◌, Bool, true, false, List, [], ◌∷◌, ◌++◌, length, map, Option, Some, None, Result, Ok, Err, IfSome}
use Rattle.std.specs.Io.KnownBytes.{IsAtEnd}
use Rattle.wire_base.specs.declared.side.Side.{Side}
use Rattle.wire_base.specs.declared.side.Side.TheVariants.{A, B}
use Rattle.capture.specs.Listed.{IsListSoFar}
use Rattle.wire_text.specs.WireText.{Wire, wire_form}
use Rattle.dna_station.specs.declared.head.Head.{Head}
use Rattle.accusing.specs.declared.wrong.Wrong.{Wrong as StationWrong}
use Rattle.accusing.specs.Placing.{Passed as Seen, Own, Other}
use Rattle.accusing.specs.Sight.{Sight, all_passed, first_sight}
use Rattle.accusing.specs.Answers as station
use Rattle.accusing_links.specs.declared.wrong.Wrong.{Wrong as PacketWrong}
use Rattle.accusing_links.specs.Answers as node
use Rattle.accusing_links.specs.Back.{is_back_unit, told}
use Rattle.accusing_links.specs.Heard.{heard}
use Rattle.accusing_links.specs.Wrong.{wrong_unit}
use Rattle.accusing_segments.specs.Answers as sends_all
use Rattle.accusing_segments.specs.History.{history}
use Rattle.accusing_segments.specs.Repeats.{is_changed_unit, repeats}
use Rattle.accusing_segments.specs.Wrong.{is_long_unit, is_wrong_unit}
use Rattle.wire_tap.specs.Units.{UnitPassed, passed_in, units_by}
use Rattle.wire_tap.specs.declared.accusation.Accusation.{Accusation}
use Rattle.wire_tap.specs.declared.accusation.Accused.{Accused}
use Rattle.wire_tap.specs.declared.accusation.Exception.{Exception}
use Rattle.wire_tap.specs.declared.accusation.Exception.TheVariants.{AcknowledgementQueue, OtherSubchannel}
use Rattle.wire_tap.specs.declared.exception.Charge.{Charge}
use Rattle.wire_tap.specs.declared.exception.Charge.TheVariants.{Station, Packet, Back, TooLong, Changed}
use Rattle.wire_tap.specs.declared.tapped.Passed.{Passed}

-- ---- what a side's accusers are told

-- as this side sees a unit of that side
abbrev pub seen_by : Side → Side → List ℕ → Seen
seen_by A A unit = Own unit
seen_by A B unit = Other unit
seen_by B A unit = Other unit
seen_by B B unit = Own unit

abbrev pub seen : Side → List UnitPassed → List Seen
seen side passed = map (λ (u : UnitPassed). seen_by side u.side u.bytes) passed

-- ---- what they say of a unit of the side, by what passed before it

-- Of its packet: by itself, of its acknowledgement, and of its segment's length and bytes. The first that says something counts.
abbrev pub first_charge : Option PacketWrong → (back long changed : Bool) → Option Charge
first_charge (Some wrong) back long changed = Some Packet
first_charge None true long changed = Some Back
first_charge None false true changed = Some TooLong
first_charge None false false true = Some Changed
first_charge None false false false = None

abbrev pub packet_charge : Head → List Seen → List ℕ → Option Charge
packet_charge head before unit =
    first_charge (wrong_unit head (heard before) unit) (is_back_unit (told before) unit) (is_long_unit (history before) unit)
    (is_changed_unit (history before) (repeats before) unit)

-- over the line alone no packet is asked
abbrev pub packet_charge_if : (line_alone : Bool) → Head → List Seen → List ℕ → Option Charge
packet_charge_if true head before unit = None
packet_charge_if false head before unit = packet_charge head before unit

-- its station comes first
abbrev pub charge_by : Result Sight StationWrong → Option Charge → Option Charge
charge_by (Err wrong) packet = Some Station
charge_by (Ok sight) packet = packet

abbrev pub charge_of : (line_alone : Bool) → Head → List Seen → List ℕ → Option Charge
charge_of line_alone head before unit =
    charge_by (all_passed first_sight (before ++ Own unit ∷ [])) (packet_charge_if line_alone head before unit)

-- no node that sends all it composed sends its segment
abbrev pub is_doubted : (line_alone : Bool) → List Seen → List ℕ → Bool
is_doubted true before unit = false
is_doubted false before unit = is_wrong_unit (history before) unit

-- ---- what that means

-- no correct station, or no correct node with this head, sends the side's units among these
abbrev pub SendsNone : Charge → Head → List Seen → Type 0
SendsNone Station head passed = station.IsWrong passed
SendsNone Packet head passed = node.IsWrong head passed
SendsNone Back head passed = node.IsWrong head passed
SendsNone TooLong head passed = node.IsWrong head passed
SendsNone Changed head passed = node.IsWrong head passed

-- what is said besides of a node that sends it all the same; of packets it depends on their addresses
abbrev pub HasException : Charge → Option Exception → Type 0
HasException Station unless = unless ≡ None
HasException Packet unless = Unit {0}
HasException Back unless = unless ≡ Some AcknowledgementQueue
HasException TooLong unless = unless ≡ None
HasException Changed unless = unless ≡ Some OtherSubchannel

-- ---- what is printed

-- A unit of the side that passed after these is named, by how many of the side passed before it and by the line of its first byte.
pub record Names (side : Side) (before : List UnitPassed) (unit : UnitPassed) (named : Passed) : Type 0 where
  pub of : unit.side ≡ side
  pub side_is : named.side ≡ side
  pub number : length (units_by side before) < 2 ^ 64 → named.unit ≡ length (units_by side before)
  pub line : named.line ≡ unit.line

module _ (line_alone : Bool) (head : Head) (side : Side) (passed : List UnitPassed) where
  -- one of the units that passed
  pub record NamesOne (named : Passed) : Type 0 where
    pub before : List UnitPassed
    pub unit : UnitPassed
    pub later : List UnitPassed
    pub are : passed ≡ before ++ unit ∷ later
    pub names : Names side before unit named

  -- it is accused by this charge
  pub record IsCharged (named : Passed) (unless : Option Exception) : Type 0 where
    pub one : NamesOne named
    pub charge : Charge
    pub says : charge_of line_alone head (seen side one.before) one.unit.bytes ≡ Some charge
    pub means : SendsNone charge head (seen side one.before ++ Own one.unit.bytes ∷ [])
    pub unless_is : HasException charge unless

  -- it is accused if the node sends all it composed, and not otherwise
  pub record IsDoubted (named : Passed) : Type 0 where
    pub one : NamesOne named
    pub says_none : charge_of line_alone head (seen side one.before) one.unit.bytes ≡ None
    pub says : is_doubted line_alone (seen side one.before) one.unit.bytes ≡ true
    pub means : sends_all.IsWrong (seen side one.before ++ Own one.unit.bytes ∷ [])

  abbrev pub AccusesOne : Accusation → Type 0
  AccusesOne accusation = IsCharged accusation.passed accusation.unless

abbrev pub head_of : (own peer : ℕ) → Head
head_of own peer = record { own = own; peer = peer }

-- a segment is named only of a side that is not accused
abbrev pub IsEither : Option Accusation → Option Passed → Type 0
IsEither None segment = Unit {0}
IsEither (Some accusation) segment = segment ≡ None

pub record AreEither (accused : Accused) : Type 0 where
  pub a : IsEither accused.a accused.segment_a
  pub b : IsEither accused.b accused.segment_b

-- each unit that is named passed, and is accused by what passed before it
pub record AreAccused (line_alone : Bool) (node_a node_b : ℕ) (passed : List UnitPassed) (accused : Accused) : Type 0 where
  pub a : IfSome accused.a (AccusesOne line_alone (head_of node_a node_b) A passed)
  pub b : IfSome accused.b (AccusesOne line_alone (head_of node_b node_a) B passed)
  pub segment_a : IfSome accused.segment_a (IsDoubted line_alone (head_of node_a node_b) A passed)
  pub segment_b : IfSome accused.segment_b (IsDoubted line_alone (head_of node_b node_a) B passed)

-- of a text that was read to its end
abbrev pub FindsAccused : (line_alone : Bool) → Option (List ℕ) → Accused → Type 0
FindsAccused line_alone text accused =
    (wire : Wire) × (come : Option (List ℕ)) × IsListSoFar wire_form text wire come × IsAtEnd come
    × AreAccused line_alone wire.node_a wire.node_b (passed_in wire.items) accused
