-- What accuses both sides while units pass, and what of it is named.
use Rattle.std.specs.Prelude.{◌≡◌, ℕ, ◌+◌, ◌-◌, ◌<◌, ◌≤◌, Bool, true, false, List, [], ◌++◌, length, slice_index_or, Option, Some, None, IfSome}
use Rattle.std.specs.Io.KnownBytes.{IsAtEnd}
use Rattle.wire_base.specs.declared.side.Side.{Side}
use Rattle.wire_base.specs.declared.side.Side.TheVariants.{A, B}
use Rattle.capture.specs.Listed.{IsListSoFar}
use Rattle.framer.specs.Framing.{framing, units_at}
use Rattle.wire_text.specs.WireText.{Piece, Wire, wire_form}
use Rattle.dna_station.specs.declared.head.Head.{Head}
use Rattle.accusing.specs.Answers as station
use Rattle.accusing.specs.Placing.{Passed as Seen}
use Rattle.accusing_links.specs.Answers as links
use Rattle.accusing_links.specs.AckAnswers as acks
use Rattle.accusing_segments.specs.Answers as segments
use Rattle.wire_tap.specs.Accusing.{IsCharged, IsDoubted, head_of, seen}
use Rattle.wire_tap.specs.Units.{UnitPassed, bytes_of, line_at, passed_in, units_by, with_lines}
use Rattle.wire_tap.specs.inner.Side.{counted}
use Rattle.wire_tap.specs.declared.direction.Direction.{Direction}
use Rattle.wire_tap.specs.declared.accused.Line.{Line}
use Rattle.wire_tap.specs.declared.direction.Next.{Next}
use Rattle.wire_tap.specs.declared.direction.Next.TheVariants as next
use Rattle.wire_tap.specs.declared.told.Told.{Told}
use Rattle.wire_tap.specs.declared.accusers.Accusers.{Accusers}
use Rattle.wire_tap.specs.declared.accusers.PacketAccusers.{PacketAccusers}
use Rattle.wire_tap.specs.declared.accusers.Said.{Said}
use Rattle.wire_tap.specs.declared.accusers.Said.TheVariants.{Charged, Doubted, Nothing}
use Rattle.wire_tap.specs.declared.accusation.Accusation.{Accusation}
use Rattle.wire_tap.specs.declared.begun.Begun.{Begun}
use Rattle.wire_tap.specs.declared.exception.Charge.{Charge}
use Rattle.wire_tap.specs.declared.suspects.SideAccused.{SideAccused}
use Rattle.wire_tap.specs.declared.suspects.Suspect.{Suspect}
use Rattle.wire_tap.specs.declared.tapped.Passed.{Passed}

-- ---- the accusers of a side

-- each was told of these units
pub record PacketsKnow (head : Head) (passed : List Seen) (packets : PacketAccusers) : Type 0 where
  pub head_is : packets.links.head ≡ head
  pub links : links.IsAfter packets.links passed
  pub acks : acks.AreKnownAfter packets.acks passed
  pub segments : segments.IsAfter packets.segments passed

abbrev pub PacketsKnowIf : (line_alone : Bool) → Head → List Seen → Option PacketAccusers → Type 0
PacketsKnowIf true head passed None = Unit {0}
PacketsKnowIf true head passed (Some packets) = ⊥
PacketsKnowIf false head passed None = ⊥
PacketsKnowIf false head passed (Some packets) = PacketsKnow head passed packets

pub record Know (line_alone : Bool) (head : Head) (passed : List Seen) (accusers : Accusers) : Type 0 where
  pub station : station.IsAfter accusers.station passed
  pub packets : PacketsKnowIf line_alone head passed accusers.packets

-- this is said of a unit that is accused so, or doubted
abbrev pub IsSaid : Said → Option Charge → Bool → Type 0
IsSaid (Charged by) made doubt = made ≡ Some by
IsSaid Doubted made doubt = (made ≡ None) × (doubt ≡ true)
IsSaid Nothing made doubt = made ≡ None

-- after it, where it is not accused
abbrev pub KnowIf : Said → (line_alone : Bool) → Head → List Seen → Accusers → Type 0
KnowIf (Charged by) line_alone head passed accusers = Unit {0}
KnowIf Doubted line_alone head passed accusers = Know line_alone head passed accusers
KnowIf Nothing line_alone head passed accusers = Know line_alone head passed accusers

-- ---- one side

module _ (line_alone : Bool) (head : Head) (side : Side) (passed : List UnitPassed) where
  abbrev pub IsSuspected : Suspect → Type 0
  IsSuspected suspect = IsCharged line_alone head side passed suspect.passed suspect.unless

  -- it has been accused; or its accusers know what passed
  abbrev pub FirstIs : Option Suspect → Accusers → Type 0
  FirstIs None accusers = Know line_alone head (seen side passed) accusers
  FirstIs (Some suspect) accusers = IsSuspected suspect

  abbrev pub SegmentIs : Option Suspect → Type 0
  SegmentIs segment = IfSome segment (λ suspect. IsDoubted line_alone head side passed suspect.passed)

  pub record IsKnown (s : SideAccused) : Type 0 where
    pub side_is : s.side ≡ side
    pub count : s.count ≡ counted 0 (length (units_by side passed))
    pub first : FirstIs s.first s.accusers
    pub segment : SegmentIs s.segment

-- both
abbrev pub IsTold : (line_alone : Bool) → (a b : ℕ) → List UnitPassed → Told → Type 0
IsTold line_alone a b passed told = IsKnown line_alone (head_of a b) A passed told.a × IsKnown line_alone (head_of b a) B passed told.b

-- ---- on which lines the bytes are

-- The lines of the first bytes that are held, before which the side sent so many.
abbrev pub KeepsLines : (lines : ℕ → ℕ) → (place held : ℕ) → Begun → Type 0
KeepsLines lines place held begun = (i : ℕ) → i < held → i < 8 → slice_index_or begun.lines i 0 ≡ lines (place + i)

-- So many bytes that follow those that are held are on this line.
abbrev pub IsOnLine : (lines : ℕ → ℕ) → (place held more line : ℕ) → Type 0
IsOnLine lines place held more line = (i : ℕ) → held ≤ i → i < held + more → line ≡ lines (place + i)

-- ---- one direction

-- A unit was found in some bytes, and was told, and these follow; or none was, and what is held is left.
module _ (line_alone : Bool) (a b : ℕ) (side : Side) (passed : List UnitPassed) (lines : ℕ → ℕ) (place : ℕ) (bytes : List ℕ) where
  pub record FindsOne (rest : List ℕ) (told : Told) : Type 0 where
    pub found : List UnitPassed
    pub tells : IsTold line_alone a b (passed ++ found) told
    pub are : with_lines side lines (units_at place bytes)
        ≡ found ++ with_lines side lines (units_at (place + (length bytes - length rest)) rest)
    pub left : (framing bytes).left ≡ (framing rest).left

  pub record FindsNone (new : Direction) (told : Told) : Type 0 where
    pub tells : IsTold line_alone a b passed told
    pub are : with_lines side lines (units_at place bytes) ≡ []
    pub left : (framing bytes).left ≡ new.framer.held
    pub keeps : KeepsLines lines (place + (length bytes - length new.framer.held)) (length new.framer.held) new.begun

  abbrev pub FindsNext : Next → Direction → Told → Type 0
  FindsNext (next.Rest behind) new told = FindsOne behind.now told
  FindsNext next.UsedUp new told = FindsNone new told

  -- all of them were told
  pub record FindsAll (new : Direction) (told : Told) : Type 0 where
    pub tells : IsTold line_alone a b (passed ++ with_lines side lines (units_at place bytes)) told
    pub left : (framing bytes).left ≡ new.framer.held
    pub keeps : KeepsLines lines (place + (length bytes - length new.framer.held)) (length new.framer.held) new.begun
    pub side_is : new.side ≡ side

-- After a unit less is to come, and nothing is held.
abbrev pub LeavesLess : (bytes : List ℕ) → (piece : ℕ) → Direction → Next → Type 0
LeavesLess bytes piece new (next.Rest behind) = (length behind.now < length bytes) × (length behind.now ≤ piece) × (new.framer.held ≡ [])
LeavesLess bytes piece new next.UsedUp = Unit {0}

-- after these pieces
pub record IsBehind (side : Side) (pieces : List Piece) (d : Direction) : Type 0 where
  pub side_is : d.side ≡ side
  pub left : (framing (bytes_of side pieces)).left ≡ d.framer.held
  pub keeps : KeepsLines (line_at side 2 pieces) (length (bytes_of side pieces) - length d.framer.held) (length d.framer.held) d.begun

pub record IsLineBehind (line_alone : Bool) (node_a node_b : ℕ) (pieces : List Piece) (line : Line) : Type 0 where
  pub a : IsBehind A pieces line.a
  pub b : IsBehind B pieces line.b
  pub told : IsTold line_alone node_a node_b (passed_in pieces) line.told

-- ---- the text

-- so many pieces were read of it, and this is to come
pub record IsReading (line_alone : Bool) (text : Option (List ℕ)) (pieces : ℕ) (come : Option (List ℕ)) (line : Line) : Type 0 where
  pub wire : Wire
  pub read : IsListSoFar wire_form text wire come
  pub count : length wire.items ≡ pieces
  pub behind : IsLineBehind line_alone wire.node_a wire.node_b wire.items line

-- all of them
pub record IsRead (line_alone : Bool) (text : Option (List ℕ)) (line : Line) : Type 0 where
  pub wire : Wire
  pub come : Option (List ℕ)
  pub read : IsListSoFar wire_form text wire come
  pub end : IsAtEnd come
  pub behind : IsLineBehind line_alone wire.node_a wire.node_b wire.items line

abbrev pub ReadsOn : (more : Bool) → (line_alone : Bool) → Option (List ℕ) → ℕ → Option (List ℕ) → Line → Type 0
ReadsOn true line_alone text pieces come line = IsReading line_alone text pieces come line
ReadsOn false line_alone text pieces come line = IsRead line_alone text line

-- ---- what is left of it

-- an accusation is that of this suspect
abbrev pub Leaves : Option Suspect → Option Accusation → Type 0
Leaves suspect None = Unit {0}
Leaves None (Some accusation) = ⊥
Leaves (Some suspect) (Some accusation) = (accusation.passed ≡ suspect.passed) × (accusation.unless ≡ suspect.unless)

abbrev pub LeavesSegment : Option Suspect → Option Passed → Type 0
LeavesSegment suspect None = Unit {0}
LeavesSegment None (Some passed) = ⊥
LeavesSegment (Some suspect) (Some passed) = passed ≡ suspect.passed
