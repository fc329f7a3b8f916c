-- What is assumed of both sides of a line: at which record of its capture each kind of assumption may stand.
use Rattle.std.specs.Prelude.{◌≡◌, ◌≢◌, ℕ, ◌+◌, ◌≤◌, ◌<◌, Bool, true, false, if◌then◌else◌, List, [], ◌∷◌, ◌++◌, length}
use Rattle.std.specs.Prelude.{Option, Some, IfSome}
use Rattle.std.specs.List.{AllByRecursion}
use Rattle.wire_base.specs.declared.side.Side.{Side}
use Rattle.wire_base.specs.declared.side.Side.TheVariants.{A, B}
use Rattle.capture_record.specs.declared.event.Event.TheVariants.{Start}
use Rattle.capture_record.specs.declared.fate.Fate.{Fate}
use Rattle.capture.specs.declared.hint.HintForm.{HintForm}
use Rattle.capture_record.specs.declared.record.Record.{Record}
use Rattle.capture_record.specs.declared.record.Record.TheVariants.{Sent, Received, Noise, User}
use Rattle.capture_record.specs.Fates.{is_kept}
use Rattle.capture.specs.SoFar.{IsReadSoFar, TheEnd, so_far}
use Rattle.dna_packet.specs.Nsp.{NspValue, ConnectInitiate, ConnectConfirm, DisconnectInitiate, DataSegment}
use Rattle.placing.specs.Placed.{units_sent}
use Rattle.placing.specs.declared.turn.Assumed.{Assumed}
use Rattle.placing.specs.declared.turn.Assumed.TheVariants.{Keeps, Boots, GivesUp, Anew, Answers}
use Rattle.placing.specs.declared.turn.Turn.{Turn}
use Rattle.assuming.specs.Messages.{message_in_unit}
use Rattle.assuming.specs.declared.message.Kind.{Kind}
use Rattle.assuming.specs.declared.message.Kind.TheVariants as kinds

-- ---- what is in a capture

-- how many packets were kept since the last unit, here so many to begin with
abbrev pub kept_since : ℕ → List Record → ℕ
kept_since kept [] = kept
kept_since kept (Sent bytes ∷ rs) = kept_since 0 rs
kept_since kept (Received hint fate bytes ∷ rs) = kept_since (if is_kept fate then kept + 1 else kept) rs
kept_since kept (Noise bytes ∷ rs) = kept_since kept rs
kept_since kept (User event ∷ rs) = kept_since kept rs

-- Among these records is this one, and the side sent so many units before it: of a unit its number, counted from 0.
pub record IsAmong (rs : List Record) (unit : ℕ) (before : List Record) (r : Record) : Type 0 where
  pub after : List Record
  pub are : rs ≡ before ++ r ∷ after
  pub unit_is : length (units_sent before) ≡ unit

-- The user starts the station after so many units; so many packets were kept since the last of them.
pub record IsStart (rs : List Record) (unit kept : ℕ) : Type 0 where
  pub before : List Record
  pub among : IsAmong rs unit before (User Start)
  pub kept_is : kept_since 0 before ≡ kept

-- which message it is; all others are alike here
abbrev pub kind_of : NspValue → Kind
kind_of (ConnectInitiate retransmitted srcaddr services info segsize user_data) = kinds.Call
kind_of (ConnectConfirm dstaddr srcaddr services info segsize user_data) = kinds.Confirm
kind_of (DisconnectInitiate dstaddr srcaddr reason user_data) = kinds.Disconnect
kind_of (DataSegment segment) = kinds.Segment
kind_of message = kinds.Other

-- the unit with this number has a message of this kind
pub record IsSent (rs : List Record) (unit : ℕ) (kind : Kind) : Type 0 where
  pub before : List Record
  pub bytes : List ℕ
  pub among : IsAmong rs unit before (Sent bytes)
  pub message : NspValue
  pub says : message_in_unit bytes ≡ Some message
  pub kind_is : kind_of message ≡ kind

-- the link that a CI is from; of any other message none, as 0 is no link
abbrev pub caller_of : NspValue → ℕ
caller_of (ConnectInitiate retransmitted srcaddr services info segsize user_data) = srcaddr
caller_of message = 0

-- After so many units the packet of the other side's unit with this number is kept, a CI from this link.
pub record IsCalled (rs : List Record) (unit came partner : ℕ) : Type 0 where
  pub before : List Record
  pub fate : Fate
  pub bytes : List ℕ
  pub among : IsAmong rs unit before (Received came fate bytes)
  pub kept : is_kept fate ≡ true
  pub message : NspValue
  pub says : message_in_unit bytes ≡ Some message
  pub caller : caller_of message ≡ partner
  pub some : 1 ≤ partner

-- ---- where each kind of assumption may stand, in the capture of its side

-- a CI, CC or DI
abbrev pub begins_or_answers : Kind → Bool
begins_or_answers kinds.Call = true
begins_or_answers kinds.Confirm = true
begins_or_answers kinds.Disconnect = true
begins_or_answers kinds.Segment = false
begins_or_answers kinds.Other = false

abbrev pub Fits : List Record → (unit : ℕ) → Assumed → Type 0
-- Fewer packets were kept before a start than the capture has: it is right before this unit, and they came after the unit before.
Fits rs unit (Keeps most) = (kept : ℕ) × IsStart rs unit kept × (most < kept)
-- The node boots at a start that is not before its first unit.
Fits rs unit Boots = (kept : ℕ) × IsStart rs unit kept × (1 ≤ unit)
-- The call is given up that this unit begins or repeats.
Fits rs unit GivesUp = IsSent rs unit kinds.Call
-- This unit begins something, or goes again.
Fits rs unit (Anew is_anew) = (kind : Kind) × IsSent rs unit kind × (begins_or_answers kind ≡ true)
-- The call of this partner is answered as soon as its CI is kept.
Fits rs unit (Answers came partner link accepts) = IsCalled rs unit came partner

-- ---- the answer

abbrev pub of_side : Side → List Record → List Record → List Record
of_side A a b = a
of_side B a b = b

-- What a turn is about: its side, its kind and its unit, or where a call is answered the unit in which it came.
abbrev pub side_number : Side → ℕ
side_number A = 0
side_number B = 1

abbrev pub about : (side unit : ℕ) → Assumed → ℕ × ℕ × ℕ
about side unit (Keeps most) = (side, 0, unit)
about side unit Boots = (side, 1, unit)
about side unit GivesUp = (side, 2, unit)
about side unit (Anew is_anew) = (side, 3, unit)
about side unit (Answers came partner link accepts) = (side, 4, came)

abbrev pub place_of : Turn → ℕ × ℕ × ℕ
place_of turn = about (side_number turn.side) turn.unit turn.what

-- no two of them are about the same
abbrev pub AreApart : List Turn → Type 0
AreApart [] = Unit {0}
AreApart (turn ∷ turns) = AllByRecursion (λ (other : Turn). place_of other ≢ place_of turn) turns × AreApart turns

-- This turn fits the capture of its side, and its line is not told yet.
pub record FitsIn (a b : List Record) (turn : Turn) : Type 0 where
  pub fits : Fits (of_side turn.side a b) turn.unit turn.what
  pub line : turn.line ≡ 0

-- each of them does, and each is told once
pub record AreAssumed (turns : List Turn) (a b : List Record) : Type 0 where
  pub fit : AllByRecursion (FitsIn a b) turns
  pub apart : AreApart turns

-- The unit at which a message is too long has a data segment.
abbrev pub IsTooLong : List Record → List Record → Side × ℕ → Type 0
IsTooLong a b at = IsSent (of_side at.0 a b) at.1 kinds.Segment

-- this text is a capture with these records, read to its end
pub record IsWhole (text : Option (List ℕ)) (rs : List Record) : Type 0 where
  pub form : HintForm
  pub own : ℕ
  pub peer : ℕ
  pub whole : IsReadSoFar text (so_far form own peer rs TheEnd)

-- What is answered of two captures: both were read to their ends, and what is assumed fits what they tell.
pub record AreAssumptions (text_a text_b : Option (List ℕ)) (turns : List Turn) (too_long : Option (Side × ℕ)) : Type 0 where
  pub a : List Record
  pub b : List Record
  pub read_a : IsWhole text_a a
  pub read_b : IsWhole text_b b
  pub assumed : AreAssumed turns a b
  pub long : IfSome too_long (IsTooLong a b)
