-- The segments of a link on true numbers, cut to what a node keeps of those of a live link. What holds of their own numbers, and of the numbers
-- of what comes, is what makes numbers modulo 4,096 tell all.
use Rattle.std.specs.Prelude.{◌≡◌, ℕ, ◌+◌, ◌≤◌, nat_le, if◌then◌else◌, List, [], ◌∷◌, map, drop, Result, Ok, Err}
use Rattle.dna_packet.specs.declared.ack_word.AckWord.{AckWord}
use Rattle.dna_station.specs.declared.link_refusal.LinkRefusal.{LinkRefusal}
use Rattle.dna_links.specs.SegmentBook.{Sending, REACH, wire, is_of_data}
use Rattle.dna_links.specs.TrueSegments.{TrueSegments, Numbers, highest_given, highest_received, acknowledged_through}
use Rattle.dna_links.specs.WireSegments.{WireSegments}

abbrev pub cut : TrueSegments → WireSegments
cut f = record {
  variables = record {
    unsent = f.unsent;
    acknowledged = wire f.acknowledged;
    outstanding = drop f.acknowledged f.given;
    received = wire (highest_received f);
    pieces = drop f.passed f.received;
  };
  gave_many = nat_le REACH (highest_given f);
  last = wire f.last;
  last_is_high = nat_le REACH f.last;
}

-- what a message makes of the segments, cut; of its numbers a node knows nothing but the bytes
abbrev pub cut_sending : Result (Sending TrueSegments Numbers) LinkRefusal → Result (Sending WireSegments (Unit {0})) LinkRefusal
cut_sending (Ok sent) = Ok (record { segments = cut sent.segments; known = tt })
cut_sending (Err reason) = Err reason

-- The segments' own numbers are in order: what is acknowledged was given, and at most 2,047 are outstanding; what was acknowledged to the
-- partner was received, and so was what is delivered
pub record IsOrdered (f : TrueSegments) : Type 0 where
  pub given : f.acknowledged ≤ highest_given f
  pub few : highest_given f ≤ f.acknowledged + REACH
  pub last : f.last ≤ highest_received f
  pub passed : f.passed ≤ highest_received f

-- the highest received is at most 2,047 above the last acknowledgement sent
abbrev pub IsAnswered : TrueSegments → Type 0
IsAnswered f = highest_received f ≤ f.last + REACH

-- ---- what comes

-- the numbers in words of this subchannel
abbrev pub data_numbers : List AckWord → List ℕ
data_numbers [] = []
data_numbers (word ∷ words) = if is_of_data word.qualifier then word.number ∷ data_numbers words else data_numbers words

-- the words have the wire values of these numbers
abbrev pub Spells : List AckWord → List ℕ → Type 0
Spells words numbers = data_numbers words ≡ map wire numbers

-- an acknowledgement lies from 2,047 below the highest acknowledged through the highest given
pub record AckIsNear (f : TrueSegments) (number : ℕ) : Type 0 where
  pub least : f.acknowledged ≤ number + REACH
  pub most : number ≤ highest_given f

-- each is near when it comes
abbrev pub AcksAreNear : TrueSegments → List ℕ → Type 0
AcksAreNear f [] = Unit {0}
AcksAreNear f (number ∷ numbers) = AckIsNear f number × AcksAreNear (acknowledged_through f number) numbers

-- a segment number differs from the highest received by -2,047 to 2,047
pub record SegmentIsNear (f : TrueSegments) (number : ℕ) : Type 0 where
  pub first : 1 ≤ number
  pub least : highest_received f ≤ number + REACH
  pub most : number ≤ highest_received f + REACH
