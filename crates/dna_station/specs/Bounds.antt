-- What holds at any time of a station's own numbers, and of the numbers of what it meets. It is what makes numbers modulo 256 tell all.
use Rattle.std.specs.Prelude.{◌≡◌, ℕ, ◌+◌, ◌<◌, ◌≤◌, true, Some, List, [], ◌∷◌, slice_get}
use Rattle.two_nodes.specs.Nodes.{Half}
use Rattle.ddcmp_msg.specs.Message.{MessageValue}
use Rattle.dna_station.specs.Table.{WINDOW, Effect, Respond, TakePacket, AnswerRep, row}
use Rattle.dna_station.specs.PeriodRule.{of_period}
use Rattle.dna_station.specs.Station.{Station, given, wire}
use Rattle.dna_station.specs.Truth.{Truth}
use Rattle.dna_station.specs.Book.{resp_of, num_of}
use Rattle.dna_station.specs.StationBook.{meets_needs}
use Rattle.dna_station.specs.Line.{SentUnit}
use Rattle.dna_station.specs.Node.{Node}

-- What holds of a station after any records: the next number to send lies above the acknowledged one and at most one above the highest
-- given, and at most 255 are outstanding
pub record IsOrdered (s : Station) : Type 0 where
  pub above : s.acknowledged < s.next_to_send
  pub below : s.next_to_send ≤ given s + 1
  pub few : given s ≤ s.acknowledged + WINDOW

-- the bytes of a message are the wire values of the numbers that they stand for
pub record HasWireNumbers (m : MessageValue) (u : Truth) : Type 0 where
  pub response : resp_of m ≡ wire u.response
  pub number : num_of m ≡ wire u.number

-- a response is from the receiver's highest acknowledged through its highest given
pub record ResponseIsNear (s : Station) (response : ℕ) : Type 0 where
  pub least : s.acknowledged ≤ response
  pub most : response ≤ given s

-- a data number differs from the receiver's last one by -254 to 255
pub record NumberIsNear (s : Station) (number : ℕ) : Type 0 where
  pub least : s.received < number + WINDOW
  pub most : number ≤ s.received + WINDOW

-- a REP's number is from the receiver's last one through 255 above it
pub record RepIsNear (s : Station) (number : ℕ) : Type 0 where
  pub least : s.received ≤ number
  pub most : number ≤ s.received + WINDOW

-- what an effect asks of the numbers
abbrev pub IsNear : Station → Truth → Effect → Type 0
IsNear s u Respond = ResponseIsNear s u.response
IsNear s u TakePacket = NumberIsNear s u.number
IsNear s u AnswerRep = RepIsNear s u.number
IsNear s u effect = Unit {0}

-- and all effects of a row
abbrev pub AreNear : Station → Truth → List Effect → Type 0
AreNear s u [] = Unit {0}
AreNear s u (effect ∷ next) = IsNear s u effect × AreNear s u next

-- a message that this station meets within the bounds, as far as it looks at its numbers
pub record IsWithin (s : Station) (m : MessageValue) (u : Truth) : Type 0 where
  pub wire_numbers : HasWireNumbers m u
  pub near : AreNear s u (row s.state m).effects

-- ---- in a run

-- A node beside the other: its own numbers are in order, and of the other's units that may still come, each that the rule on periods
-- does not refuse is within the bounds
pub record IsBounded (own other : Half Node SentUnit) : Type 0 where
  pub ordered : IsOrdered own.state.station
  pub within : (k : ℕ) (unit : SentUnit) → slice_get other.sent k ≡ Some unit → own.state.front ≤ k →
      meets_needs of_period own.state.station unit.message unit.known ≡ true → IsWithin own.state.station unit.message unit.known
